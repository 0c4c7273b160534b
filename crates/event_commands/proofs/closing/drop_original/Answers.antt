use Rattle.std.proofs.Common.{sym, ◌∙◌}
use Rattle.event_commands.proofs.Families.{family-gone, no-family_left, no-original_gone, original-gone, original-may_go}
use Rattle.event_commands.proofs.closing.drop_original.Goals as goal

pub drop_instance-requires : goal.drop_instance-requires
drop_instance-requires c =
    original-may_go c.args.world.now.hardware c.args.world.now c.args.event c.in-Some.original c.key_of.ensures.kept (sym c.key_of.ensures.key ∙ c.in-Some.is) c.requires.last

pub returns-in-Some-clause-gone : goal.returns-in-Some-clause-gone
returns-in-Some-clause-gone c =
    original-gone c.args.world.now.hardware c.args.world.now c.drop_instance.new.self c.args.event c.in-Some.original c.key_of.ensures.kept (sym c.key_of.ensures.key ∙ c.in-Some.is)
    c.requires.last c.drop_instance.ensures.world c.drop_instance.ensures.stage

pub returns-in-Some-clause-left : goal.returns-in-Some-clause-left
returns-in-Some-clause-left c =
    family-gone c.args.world.now.hardware c.args.world.now c.drop_instance.new.self c.args.event c.in-Some.original c.key_of.ensures.kept c.requires.slot
    (sym c.key_of.ensures.key ∙ c.in-Some.is) c.requires.last c.drop_instance.ensures.world

pub returns-in_default-clause-gone : goal.returns-in_default-clause-gone
returns-in_default-clause-gone c = no-original_gone c.args.event c.args.world.now (sym c.key_of.ensures.key ∙ c.in_default.is)

pub returns-in_default-clause-left : goal.returns-in_default-clause-left
returns-in_default-clause-left c = no-family_left c.args.event c.args.world.now (sym c.key_of.ensures.key ∙ c.in_default.is) c.requires.last
