use Rattle.std.proofs.Common.{refl}
use Rattle.world_spec.specs.Changes.{all_but}
use Rattle.world_tables.proofs.{Written.{there-row, written-entry}, Tables.{tally-at, table-wrote}}
use Rattle.world_tables.proofs.event_table.EventTable.remove_member.Goals as goal

pub index_mut-requires : goal.index_mut-requires
index_mut-requires c = there-row c.self.inside.meters.items c.self.inside.events c.args.self.now c.args.leader c.self.view_is c.requires

pub returns : goal.returns
returns c = rw c.remove_member.ensures (written-entry c.self.inside.meters.items c.self.inside.events c.args.self.now c.args.leader c.index_mut.result.now c.self.view_is c.index_mut.ensures.value (λ e. record e { members = all_but c.args.member e.members }) refl)

pub invariant_of-self : goal.invariant_of-self
invariant_of-self c =
    table-wrote c.self.inside.meters.items c.self.inside.idle c.self.inside.samplers c.self.inside.events c.args.leader.0 c.index_mut.result.now _ _ c.remove_member.ensures c.self.invariant c.index_mut.ensures.value
    (tally-at c.self.inside.meters.items c.self.inside.idle c.self.inside.samplers c.self.inside.events c.args.leader.0 c.index_mut.result.now c.self.invariant c.index_mut.ensures.value) (λ place. refl)
