use Rattle.event_commands.proofs.InTurn.{whole-family}
use Rattle.event_commands.proofs.changing.change_family.Goals as goal

pub returns : goal.returns
returns c =
    whole-family c.args.command c.args.world.now c.change_original.new.world c.change_copies.new.world c.args.event c.change_original.ensures c.change_copies.ensures
