use Rattle.std.proofs.Common.{◌≡◌, refl, sym, ap, subst}
use Rattle.world_tables.{specs.{Meters.{IsTally, tally_to}, Rows.{meter_at}}, proofs.Written.{there-row, written-way}}
use Rattle.world_tables.proofs.Tables.{tally-at, table-wrote, meter-found, shown-turned, tally-turned}
use Rattle.world_tables.proofs.event_table.EventTable.turn.Goals as goal

pub index_mut-event-requires : goal.index_mut-event-requires
index_mut-event-requires c = there-row c.self.inside.meters.items c.self.inside.events c.args.self.now c.args.key c.self.view_is c.requires.there

pub turn-requires-clause-tally : goal.turn-requires-clause-tally
turn-requires-clause-tally c =
    let from_is : c.meter_of-from.result.now ≡ (meter_at c.self.inside.meters.items c.index_mut-event.result.now.tally.cpu) = meter-found c.self.inside.meters.items c.deref.result.now c.self.inside.idle c.meter_of-from.result.now c.cpu.result c.index_mut-event.result.now.tally.cpu c.deref.ensures.value c.self.invariant.idle c.meter_of-from.ensures c.cpu.ensures in
    subst (λ x. IsTally x c.index_mut-event.result.now.entry.instance.attr c.index_mut-event.result.now.tally) (sym from_is) (tally-at c.self.inside.meters.items c.self.inside.idle c.self.inside.samplers c.self.inside.events c.args.key.0 c.index_mut-event.result.now c.self.invariant c.index_mut-event.ensures.value)

pub returns : goal.returns
returns c =
    let from_is : c.meter_of-from.result.now ≡ (meter_at c.self.inside.meters.items c.index_mut-event.result.now.tally.cpu) = meter-found c.self.inside.meters.items c.deref.result.now c.self.inside.idle c.meter_of-from.result.now c.cpu.result c.index_mut-event.result.now.tally.cpu c.deref.ensures.value c.self.invariant.idle c.meter_of-from.ensures c.cpu.ensures in
    let to_is : c.meter_of-to.result.now ≡ meter_at c.self.inside.meters.items c.args.way.cpu = meter-found c.self.inside.meters.items c.deref-2.result.now c.self.inside.idle c.meter_of-to.result.now c.way.inside.cpu c.args.way.cpu c.deref-2.ensures.value c.self.invariant.idle c.meter_of-to.ensures (ap (λ x. x.cpu) c.way.view_is) in
    rw c.turn.ensures (written-way c.self.inside.meters.items c.self.inside.events c.args.self.now c.args.key c.index_mut-event.result.now c.self.view_is c.index_mut-event.ensures.value (tally_to c.meter_of-from.result.now c.meter_of-to.result.now c.index_mut-event.result.now.entry.instance.attr c.args.way c.index_mut-event.result.now.tally)
    (shown-turned c.self.inside.meters.items c.index_mut-event.result.now c.meter_of-from.result.now c.meter_of-to.result.now c.args.way from_is (tally-at c.self.inside.meters.items c.self.inside.idle c.self.inside.samplers c.self.inside.events c.args.key.0 c.index_mut-event.result.now c.self.invariant c.index_mut-event.ensures.value) to_is))

pub invariant_of-self : goal.invariant_of-self
invariant_of-self c =
    let from_is : c.meter_of-from.result.now ≡ (meter_at c.self.inside.meters.items c.index_mut-event.result.now.tally.cpu) = meter-found c.self.inside.meters.items c.deref.result.now c.self.inside.idle c.meter_of-from.result.now c.cpu.result c.index_mut-event.result.now.tally.cpu c.deref.ensures.value c.self.invariant.idle c.meter_of-from.ensures c.cpu.ensures in
    let to_is : c.meter_of-to.result.now ≡ meter_at c.self.inside.meters.items c.args.way.cpu = meter-found c.self.inside.meters.items c.deref-2.result.now c.self.inside.idle c.meter_of-to.result.now c.way.inside.cpu c.args.way.cpu c.deref-2.ensures.value c.self.invariant.idle c.meter_of-to.ensures (ap (λ x. x.cpu) c.way.view_is) in
    table-wrote c.self.inside.meters.items c.self.inside.idle c.self.inside.samplers c.self.inside.events c.args.key.0 c.index_mut-event.result.now _ _ c.turn.ensures c.self.invariant c.index_mut-event.ensures.value
    (tally-turned c.self.inside.meters.items c.index_mut-event.result.now c.meter_of-from.result.now c.meter_of-to.result.now c.args.way from_is (tally-at c.self.inside.meters.items c.self.inside.idle c.self.inside.samplers c.self.inside.events c.args.key.0 c.index_mut-event.result.now c.self.invariant c.index_mut-event.ensures.value) to_is c.requires.on_is_ready) (λ place. refl)
