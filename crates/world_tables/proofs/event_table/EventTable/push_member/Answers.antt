use Rattle.std.proofs.Common.{refl, [], ◌∷◌, ◌++◌, ◌≡◌, ◌<◌, length, subst}
use Rattle.world_tables.{specs.{Rows.{row_by, meter_at}, Columns.{row_in}}, proofs.Written.{there-row, row-is, written-entry}}
use Rattle.world_tables.proofs.Tables.{tally-at, table-wrote}
use Rattle.world_tables.proofs.event_table.EventTable.push_member.Goals as goal

pub index_mut-requires : goal.index_mut-requires
index_mut-requires c = there-row c.self.inside.meters.items c.self.inside.events c.args.self.now c.args.leader c.self.view_is c.requires.there

pub returns : goal.returns
returns c = rw c.push_member.ensures (written-entry c.self.inside.meters.items c.self.inside.events c.args.self.now c.args.leader c.index_mut.result.now c.self.view_is c.index_mut.ensures.value (λ e. record e { members = e.members ++ c.args.member ∷ [] }) refl)

pub invariant_of-self : goal.invariant_of-self
invariant_of-self c =
    table-wrote c.self.inside.meters.items c.self.inside.idle c.self.inside.samplers c.self.inside.events c.args.leader.0 c.index_mut.result.now _ _ c.push_member.ensures c.self.invariant c.index_mut.ensures.value
    (tally-at c.self.inside.meters.items c.self.inside.idle c.self.inside.samplers c.self.inside.events c.args.leader.0 c.index_mut.result.now c.self.invariant c.index_mut.ensures.value) (λ place. refl)

pub push_member-requires : goal.push_member-requires
push_member-requires c =
    let here : row_in c.args.self.now c.args.leader ≡ row_by (meter_at c.self.inside.meters.items c.index_mut.result.now.tally.cpu) c.index_mut.result.now = row-is c.self.inside.meters.items c.self.inside.events c.args.self.now c.args.leader c.index_mut.result.now c.self.view_is c.index_mut.ensures.value in
    subst (λ r. length r.entry.members < 8) here c.requires.room
