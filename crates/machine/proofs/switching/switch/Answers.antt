use Rattle.std.{specs.Option.{option_copied}, proofs.{Common.{ap, not, refl, sym, ◌∙◌}, lemmas.Bool.{not-false}}}
use Rattle.perf_base.specs.declared.lines.CpuLine.TheVariants as line
use Rattle.machine.proofs.{Counting.{idle-counted, refused-cpu_counted}, Refused.{refused-cpu}, Unswitched.{unswitched-still}}
use Rattle.machine.proofs.switching.switch.Goals as goal

pub returns-in-Err-clause-done : goal.returns-in-Err-clause-done
returns-in-Err-clause-done g c = refused-cpu c.args.world.now c.args.world.now c.args.cpu (line.Switch c.args.to) c.in-Err.reason c.use_invariant.ensures refl c.in-Err.ensures.refused

pub returns-in-Ok-false-clause-done : goal.returns-in-Ok-false-clause-done
returns-in-Ok-false-clause-done g c = unswitched-still c.args.world.now c.args.cpu c.args.to (record {
  kept = c.use_invariant.ensures;
  ready = c.requires.ready;
  accepted = c.in-Ok-false.ensures.accepted;
  runs = not-false _ (sym c.in-Ok-false.ensures.changes ∙ c.in-Ok-false.field-0-test);
})

pub returns-in-Ok-true-clause-idle : goal.returns-in-Ok-true-clause-idle
returns-in-Ok-true-clause-idle g c = λ idle. absurd (let runs = ap not idle in let changes = sym c.in-Ok-true.ensures.changes ∙ c.in-Ok-true.field-0-test in cc)

pub returns-in-Err-clause-counted : goal.returns-in-Err-clause-counted
returns-in-Err-clause-counted g c = refused-cpu_counted (option_copied c.args.sheet) c.args.world.now c.args.world.now c.args.cpu (line.Switch c.args.to) c.in-Err.reason c.args.tests.now c.in-Err.ensures.refused

pub returns-in-Ok-false-clause-counted : goal.returns-in-Ok-false-clause-counted
returns-in-Ok-false-clause-counted g c =
    idle-counted (option_copied c.args.sheet) c.args.world.now c.args.world.now c.args.cpu (line.Switch c.args.to) c.args.tests.now (not-false _ (sym c.in-Ok-false.ensures.changes ∙ c.in-Ok-false.field-0-test))
