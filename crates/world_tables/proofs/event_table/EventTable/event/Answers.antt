use Rattle.std.proofs.Common.{sym, ap}
use Rattle.world_tables.proofs.Written.{there-row, row-is}
use Rattle.world_tables.proofs.event_table.EventTable.event.Goals as goal

pub index-requires : goal.index-requires
index-requires c = there-row c.self.inside.meters.items c.self.inside.events c.args.self.now c.args.key c.self.view_is c.requires

pub returns-clause-entry : goal.returns-clause-entry
returns-clause-entry c = ap (λ r. r.entry) (sym (row-is c.self.inside.meters.items c.self.inside.events c.args.self.now c.args.key c.index.result.now c.self.view_is c.index.ensures))

pub returns-clause-standing : goal.returns-clause-standing
returns-clause-standing c = ap (λ r. r.standing) (sym (row-is c.self.inside.meters.items c.self.inside.events c.args.self.now c.args.key c.index.result.now c.self.view_is c.index.ensures))

pub returns-clause-way : goal.returns-clause-way
returns-clause-way c = ap (λ r. r.way) (sym (row-is c.self.inside.meters.items c.self.inside.events c.args.self.now c.args.key c.index.result.now c.self.view_is c.index.ensures))
