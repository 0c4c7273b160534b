use Rattle.std.proofs.Common.{ap, sym, ◌∙◌}
use Rattle.stage_spec.specs.Stage.{is_open}
use Rattle.world_spec.specs.StageOf.{stage_of}
use Rattle.machine.{specs.Leading.{Kept}, proofs.Opened.{not-closed}}
use Rattle.machine.proofs.machine.Machine.original.Goals as goal

pub unreachable-requires : goal.unreachable-requires
unreachable-requires c =
    not-closed c.self.inside.world.hardware c.self.inside.world c.args.event c.key_of.ensures.kept
    (ap (λ (m : Kept). is_open (stage_of m.world) c.args.event) c.self.view_is ∙ c.requires) (sym c.key_of.ensures.key ∙ c.in-None.is)
