use Rattle.std.proofs.Common.{arith, ◌∙◌, ◌≡◌, [], ◌∷◌}
use Rattle.perf_base.specs.declared.lines.ToolLine.TheVariants as line
use Rattle.stage_spec.specs.Closing.{closed}
use Rattle.world_spec.{specs.StageOf.{stage_of}, proofs.Lines.{slots-changed}}
use Rattle.event_commands.{specs.Commands.{AreReached}, proofs.{Families.{closed-others, closed-share, closed-slots, closed-stage, is-closed}, Reached.{answered, not-answered}}}
use Rattle.event_commands.proofs.commands.close.Goals as goal

pub returns-clause-closed : goal.returns-clause-closed
returns-clause-closed c =
    is-closed c.args.world.now.hardware c.args.world.now c.drop_family.new.world c.args.event c.cpus_reaching-cpus.ensures.kept c.drop_family.ensures.gone c.drop_family.ensures.left

pub returns-clause-answer : goal.returns-clause-answer
returns-clause-answer c =
    let stage : stage_of c.drop_family.new.world ≡ closed c.args.event (stage_of c.args.world.now) =
    closed-stage c.args.world.now.hardware c.args.world.now c.drop_family.new.world c.args.event c.cpus_reaching-cpus.ensures.kept c.requires c.drop_family.ensures.gone in
    let reached : AreReached (c.args.event ∷ []) c.args.world.now c.cpus_reaching-cpus.result =
    answered c.args.world.now.hardware c.args.world.now c.as_slice.result.now (c.args.event ∷ []) c.cpus_reaching-cpus.result c.cpus_reaching-cpus.ensures.kept
    c.cpus_reaching-cpus.ensures.reaching (c.as_slice.ensures.slots ∙ c.in_ok-slots.ensures.slots) in
    slots-changed c.args.world.now c.drop_family.new.world (line.Close c.args.event) c.cpus_reaching-cpus.result c.cpus_reaching-cpus.ensures.kept c.use_invariant.ensures
    (closed-slots c.args.world.now c.drop_family.new.world c.args.event c.drop_family.ensures.gone (returns-clause-closed c))
    (λ k. closed-share c.args.world.now c.drop_family.new.world c.args.event k c.cpus_reaching-cpus.ensures.kept c.drop_family.ensures.gone)
    c.in_ok-slots.ensures.accepted stage reached.reaching reached.within
    (λ cpu low out.
    closed-others c.args.world.now.hardware c.args.world.now c.drop_family.new.world c.args.event cpu c.cpus_reaching-cpus.ensures.kept c.drop_family.ensures.gone
    stage (omega (arith, low, c.cpus_reaching-cpus.ensures.few))
    (not-answered c.args.world.now.hardware c.args.world.now c.as_slice.result.now (c.args.event ∷ []) c.cpus_reaching-cpus.result cpu c.cpus_reaching-cpus.ensures.kept
    c.cpus_reaching-cpus.ensures.reaching (c.as_slice.ensures.slots ∙ c.in_ok-slots.ensures.slots) low out))
