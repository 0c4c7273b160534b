use Rattle.std.proofs.Common.{refl, ◌∙◌}
use Rattle.perf_base.specs.declared.lines.ToolLine.TheVariants as line
use Rattle.stage_spec.specs.Commands.{targets}
use Rattle.world_spec.{specs.StageOf.{stage_of}, proofs.Lines.{still-changed}}
use Rattle.event_commands.proofs.Resetting.{is-reset, reset-others, reset-share, reset-slots, reset-stage}
use Rattle.event_commands.proofs.commands.reset.Goals as goal

pub returns-clause-counts : goal.returns-clause-counts
returns-clause-counts c =
    is-reset c.args.world.now.hardware c.args.world.now c.change_families.new.world c.as_slice.result.now (targets (stage_of c.args.world.now) c.args.event c.args.group)
    c.targets.ensures.kept (c.as_slice.ensures.slots ∙ c.in_ok-slots.ensures.slots) c.change_families.ensures

pub returns-clause-answer : goal.returns-clause-answer
returns-clause-answer c =
    still-changed c.args.world.now c.change_families.new.world (line.Reset c.args.event c.args.group) c.new.result c.targets.ensures.kept c.use_invariant.ensures
    (reset-slots c.args.world.now c.change_families.new.world (targets (stage_of c.args.world.now) c.args.event c.args.group) (returns-clause-counts c))
    (λ k. reset-share c.args.world.now c.change_families.new.world c.args.event c.args.group k c.targets.ensures.kept c.in_ok-slots.ensures.accepted (returns-clause-counts c))
    c.in_ok-slots.ensures.accepted
    (reset-stage c.args.world.now c.change_families.new.world (targets (stage_of c.args.world.now) c.args.event c.args.group) (returns-clause-counts c)) (λ cpu. refl) c.new.ensures
    (λ cpu low. reset-others c.args.world.now.hardware c.args.world.now c.change_families.new.world (targets (stage_of c.args.world.now) c.args.event c.args.group) cpu (returns-clause-counts c))
