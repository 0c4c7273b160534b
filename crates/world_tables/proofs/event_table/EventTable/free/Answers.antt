use Rattle.std.proofs.Common.{refl}
use Rattle.perf_base.specs.declared.standing.Standing.TheVariants as standing
use Rattle.world_tables.{specs.Rows.{freed_entry}, proofs.{Written.{there-row, written-stood}, Tables.{tally-at, table-wrote}}}
use Rattle.world_tables.proofs.event_table.EventTable.free.Goals as goal

pub index_mut-requires : goal.index_mut-requires
index_mut-requires c = there-row c.self.inside.meters.items c.self.inside.events c.args.self.now c.args.key c.self.view_is c.requires

pub returns : goal.returns
returns c = rw c.free.ensures (written-stood c.self.inside.meters.items c.self.inside.events c.args.self.now c.args.key c.index_mut.result.now c.self.view_is c.index_mut.ensures.value (λ e. freed_entry c.args.key e) standing.Out refl)

pub invariant_of-self : goal.invariant_of-self
invariant_of-self c =
    table-wrote c.self.inside.meters.items c.self.inside.idle c.self.inside.samplers c.self.inside.events c.args.key.0 c.index_mut.result.now _ _ c.free.ensures c.self.invariant c.index_mut.ensures.value
    (tally-at c.self.inside.meters.items c.self.inside.idle c.self.inside.samplers c.self.inside.events c.args.key.0 c.index_mut.result.now c.self.invariant c.index_mut.ensures.value) (λ place. refl)
