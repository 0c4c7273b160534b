use Rattle.std.proofs.Common.{sym, ◌∙◌}
use Rattle.world_tables.proofs.Written.{there-is, both-tests}
use Rattle.world_tables.proofs.event_table.EventTable.contains.Goals as goal

pub returns : goal.returns
returns c = both-tests _ _ c.contains.ensures ∙ sym (there-is c.self.inside.meters.items c.self.inside.events c.args.self.now c.args.key c.self.view_is)
