use Rattle.std.proofs.Common.{◌≡◌, ◌∙◌, ◌^◌, ◌<◌, ◌≤◌, ◌%◌, ℕ, List, arith, false, sym, subst, Some}
use Rattle.slab.specs.Slab.{Updates}
use Rattle.perf_base.specs.declared.numbers.Key.{Key}
use Rattle.world_tables.specs.{Columns.{is_there}, Rows.{Kept, fresh_kept, leader_entry, meter_at}, Samplers.{AreCounted}}
use Rattle.world_tables.proofs.{Sampling.{counted-comes, counted-room}, Written.{no-row, row-comes, len-entries}, Tallies.{tally-fresh}}
use Rattle.world_tables.proofs.Tables.{table-put}
use Rattle.world_tables.proofs.event_table.EventTable.insert_leader.Goals as goal

pub add-requires : goal.add-requires
add-requires c =
    counted-room c.self.inside.samplers c.self.inside.events c.args.context c.self.invariant.samplers
    (omega (arith, c.requires, len-entries c.self.inside.meters.items c.self.inside.events c.args.self.now c.self.view_is))

pub insert_reserved-requires : goal.insert_reserved-requires
insert_reserved-requires c = omega (arith, c.requires, c.self.invariant.room, len-entries c.self.inside.meters.items c.self.inside.events c.args.self.now c.self.view_is)

-- the key that came has 16 bits
in-16_bits : (v key most before : ℕ) → key ≡ v → key < most → most ≡ before → before ≤ 2 ^ 16 → key ≡ v % 65536
in-16_bits v key most before same low kept few = omega (arith, same, low, kept, few)

pub overflow_cast-key : goal.overflow_cast-key
overflow_cast-key c = omega arith

pub returns-clause-fresh : goal.returns-clause-fresh
returns-clause-fresh c =
    let is : c.insert_reserved.result ≡ c.vacant_key.result % 65536 =
    in-16_bits c.vacant_key.result c.insert_reserved.result c.insert_reserved.new.self.capacity c.self.inside.events.capacity
    (c.insert_reserved.ensures.key ∙ sym c.vacant_key.ensures.value) c.insert_reserved.ensures.key_in_range c.insert_reserved.ensures.capacity c.self.invariant.keys in
    subst (λ n. is_there c.args.self.now (record { 0 = n }) ≡ false) is
    (no-row c.self.inside.meters.items c.self.inside.events c.args.self.now (record { 0 = c.insert_reserved.result }) c.self.view_is c.insert_reserved.ensures.was_vacant)

pub returns-clause-added : goal.returns-clause-added
returns-clause-added c =
    let is : c.insert_reserved.result ≡ c.vacant_key.result % 65536 =
    in-16_bits c.vacant_key.result c.insert_reserved.result c.insert_reserved.new.self.capacity c.self.inside.events.capacity
    (c.insert_reserved.ensures.key ∙ sym c.vacant_key.ensures.value) c.insert_reserved.ensures.key_in_range c.insert_reserved.ensures.capacity c.self.invariant.keys in
    let k : Key = record { 0 = c.vacant_key.result % 65536 } in
    let new : Kept = fresh_kept (leader_entry k c.args.instance c.args.context c.args.pinned) in
    let up : Updates c.self.inside.events c.insert_reserved.new.self k.0 (Some new) = rw (← c.leader_of_one-event.ensures, ← is) c.insert_reserved.ensures.updates in
    row-comes c.self.inside.meters.items c.self.inside.events c.insert_reserved.new.self c.args.self.now k new c.self.view_is up

pub invariant_of-self : goal.invariant_of-self
invariant_of-self c =
    let k : Key = record { 0 = c.vacant_key.result % 65536 } in
    let new : Kept = fresh_kept (leader_entry k c.args.instance c.args.context c.args.pinned) in
    let up : Updates c.self.inside.events c.insert_reserved.new.self c.insert_reserved.result (Some new) = rw (← c.leader_of_one-event.ensures) c.insert_reserved.ensures.updates in
    table-put c.self.inside.meters.items c.self.inside.idle c.self.inside.samplers c.add.new.self c.self.inside.events c.insert_reserved.new.self c.insert_reserved.result new c.self.invariant up c.insert_reserved.ensures.capacity (tally-fresh (meter_at c.self.inside.meters.items (record { 0 = 0 })) c.args.instance.attr)
    (subst (λ (l : List ℕ). AreCounted l c.insert_reserved.new.self) (sym c.add.ensures) (counted-comes c.self.inside.samplers c.self.inside.events c.insert_reserved.new.self c.insert_reserved.result new c.self.invariant.samplers c.insert_reserved.ensures.was_vacant up))
