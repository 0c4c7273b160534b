use Rattle.std.proofs.Common.{sym, ◌∙◌}
use Rattle.world_spec.specs.Value.{family_of}
use Rattle.event_commands.proofs.InTurn.{no-original, one-original}
use Rattle.event_commands.proofs.changing.change_original.Goals as goal

pub returns-in-Some : goal.returns-in-Some
returns-in-Some c =
    c.change.ensures
    ∙ one-original c.args.command c.args.world.now (family_of c.args.world.now c.args.event).original c.in-Some.original (sym c.key_of.ensures.key ∙ c.in-Some.is)

pub returns-in_default : goal.returns-in_default
returns-in_default c = no-original c.args.command c.args.world.now (family_of c.args.world.now c.args.event).original (sym c.key_of.ensures.key ∙ c.in_default.is)
