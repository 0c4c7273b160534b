use Rattle.std.proofs.Common.{arith, refl, ap, subst, sym}
use Rattle.perf_base.specs.Scripts.{IsCovered}
use Rattle.top_tests.{specs.LateOpen.{behind_tick}, proofs.LateOpens.{covered, cpu-has, work-tests-none}}
use Rattle.top_tests.proofs.late_open_tests.work_behind_the_tick.Goals as goal

pub prepare-requires-clause-covered : goal.prepare-requires-clause-covered
prepare-requires-clause-covered g c = subst IsCovered (sym c.requires.script) covered

pub next_line-requires-clause-line : goal.next_line-requires-clause-line
next_line-requires-clause-line g c = cpu-has behind_tick c.args.machine.now 2 c.requires.led refl (omega arith)

pub returns : goal.returns
returns g c = record {
  none = work-tests-none c.args.machine.now c.next_line.new.machine c.prepare.new.sheet c.args.tests.now c.next_line.new.tests c.requires.led (ap (λ h. h.planned) c.prepare.ensures) c.next_line.ensures.counted;
}
