use Rattle.std.proofs.Common.{arith, refl, ap, subst, sym, ◌∙◌}
use Rattle.perf_base.specs.Scripts.{IsCovered}
use Rattle.machine.specs.Prepared.{prepared}
use Rattle.top_tests.{specs.LateOpen.{before_plan, behind_plan, cpu}, proofs.LateOpens.{covered, cpu-has, some-brief, tick-tests, tool-has}}
use Rattle.top_tests.proofs.late_open_tests.tick_behind_an_open.Goals as goal

pub prepare-requires-clause-covered : goal.prepare-requires-clause-covered
prepare-requires-clause-covered g c = subst IsCovered (sym c.requires.script) covered

pub plan-requires : goal.plan-requires
plan-requires g c = some-brief c.args.script.now c.args.machine.now c.prepare.new.sheet c.requires.script c.requires.led c.prepare.ensures

pub next_line-requires-clause-line : goal.next_line-requires-clause-line
next_line-requires-clause-line g c = tool-has before_plan c.args.machine.now 2 c.requires.led refl (omega arith)

pub next_line-requires-2-clause-line : goal.next_line-requires-2-clause-line
next_line-requires-2-clause-line g c = cpu-has behind_plan c.next_line.new.machine 1 (c.next_line.ensures.led before_plan c.requires.led) refl (omega arith)

pub returns-clause-some : goal.returns-clause-some
returns-clause-some g c =
    let opened = c.next_line.ensures.led before_plan c.requires.led in
    tick-tests c.args.machine.now c.next_line.new.machine c.next_line-2.new.machine c.plan.new.self c.args.tests.now c.next_line-2.new.tests
    c.requires.led opened (c.next_line-2.ensures.led behind_plan opened)
    (ap (λ h. h.brief) c.plan.ensures.planned ∙ (ap (λ h. h.brief) c.prepare.ensures ∙ ap (λ s. (prepared s c.args.machine.now cpu).brief) c.requires.script)) c.next_line-2.ensures.counted
