use Rattle.std.proofs.Common.{arith, rules, ◌∙◌}
use Rattle.stage_spec.specs.Commands.{targets}
use Rattle.world_spec.specs.StageOf.{stage_of}
use Rattle.event_commands.{specs.Changing.{switched}, proofs.{Reached.{answered, not-answered}, States.{has-switched, have-states, no-switch, states-others}}}
use Rattle.event_commands.proofs.commands.switch.Goals as goal

pub returns-in_err-slots-clause-answer : goal.returns-in_err-slots-clause-answer
returns-in_err-slots-clause-answer c =
    no-switch c.args.to c.args.world.now c.args.event c.args.group c.from_residual.result c.from_residual.ensures.0 (search rules)

pub returns-clause-states : goal.returns-clause-states
returns-clause-states c =
    have-states c.args.to c.args.world.now.hardware c.args.world.now c.change_families.new.world c.as_slice-2.result.now (targets (stage_of c.args.world.now) c.args.event c.args.group)
    c.targets.ensures.kept c.as_slice-2.ensures.low (c.as_slice-2.ensures.slots ∙ c.in_ok-slots.ensures.slots) c.change_families.ensures

pub returns-clause-answer : goal.returns-clause-answer
returns-clause-answer c =
    has-switched c.args.to c.args.world.now c.change_families.new.world c.args.event c.args.group c.cpus_reaching-cpus.result c.targets.ensures.kept c.use_invariant.ensures
    c.in_ok-slots.ensures.accepted (returns-clause-states c)
    (answered c.args.world.now.hardware c.args.world.now c.as_slice.result.now (targets (stage_of c.args.world.now) c.args.event c.args.group) c.cpus_reaching-cpus.result
    c.targets.ensures.kept c.cpus_reaching-cpus.ensures.reaching (c.as_slice.ensures.slots ∙ c.in_ok-slots.ensures.slots))
    (λ cpu low out.
    states-others (switched c.args.to) c.args.world.now.hardware c.args.world.now c.change_families.new.world (targets (stage_of c.args.world.now) c.args.event c.args.group) cpu
    (returns-clause-states c) (omega (arith, low, c.cpus_reaching-cpus.ensures.few))
    (not-answered c.args.world.now.hardware c.args.world.now c.as_slice.result.now (targets (stage_of c.args.world.now) c.args.event c.args.group) c.cpus_reaching-cpus.result cpu
    c.targets.ensures.kept c.cpus_reaching-cpus.ensures.reaching (c.as_slice.ensures.slots ∙ c.in_ok-slots.ensures.slots) low out))
