use Rattle.event_commands.proofs.Families.{whole-gone}
use Rattle.event_commands.proofs.closing.drop_family.Goals as goal

pub returns-clause-gone : goal.returns-clause-gone
returns-clause-gone c =
    whole-gone c.drop_copies.new.world.hardware c.args.event c.args.world.now c.drop_copies.new.world c.drop_original.new.world c.drop_original.ensures.kept c.drop_copies.ensures.gone
    c.drop_copies.ensures.left c.drop_original.ensures.gone
