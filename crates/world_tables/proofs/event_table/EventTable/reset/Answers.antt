use Rattle.std.proofs.Common.{◌≡◌, refl}
use Rattle.event_counts.specs.Counts.{restarted}
use Rattle.world_tables.{specs.{Meters.{total_of}, Rows.{meter_at, without_count}}, proofs.Written.{there-row, written-account}}
use Rattle.world_tables.proofs.Tables.{tally-at, table-wrote, meter-found, shown-reset, tally-cleared}
use Rattle.world_tables.proofs.event_table.EventTable.reset.Goals as goal

pub index_mut-event-requires : goal.index_mut-event-requires
index_mut-event-requires c = there-row c.self.inside.meters.items c.self.inside.events c.args.self.now c.args.key c.self.view_is c.requires

pub returns : goal.returns
returns c =
    let m_is : c.meter_of-meter.result.now ≡ (meter_at c.self.inside.meters.items c.index_mut-event.result.now.tally.cpu) = meter-found c.self.inside.meters.items c.deref.result.now c.self.inside.idle c.meter_of-meter.result.now c.cpu.result c.index_mut-event.result.now.tally.cpu c.deref.ensures.value c.self.invariant.idle c.meter_of-meter.ensures c.cpu.ensures in
    rw c.reset.ensures (written-account c.self.inside.meters.items c.self.inside.events c.args.self.now c.args.key c.index_mut-event.result.now c.self.view_is c.index_mut-event.ensures.value
    (record c.index_mut-event.result.now.tally { counts = restarted (total_of c.meter_of-meter.result.now.clock c.meter_of-meter.result.now.totals c.index_mut-event.result.now.entry.instance.attr) c.index_mut-event.result.now.tally.counts }) without_count refl
    (shown-reset c.self.inside.meters.items c.index_mut-event.result.now c.meter_of-meter.result.now m_is (tally-at c.self.inside.meters.items c.self.inside.idle c.self.inside.samplers c.self.inside.events c.args.key.0 c.index_mut-event.result.now c.self.invariant c.index_mut-event.ensures.value)))

pub invariant_of-self : goal.invariant_of-self
invariant_of-self c =
    let m_is : c.meter_of-meter.result.now ≡ (meter_at c.self.inside.meters.items c.index_mut-event.result.now.tally.cpu) = meter-found c.self.inside.meters.items c.deref.result.now c.self.inside.idle c.meter_of-meter.result.now c.cpu.result c.index_mut-event.result.now.tally.cpu c.deref.ensures.value c.self.invariant.idle c.meter_of-meter.ensures c.cpu.ensures in
    table-wrote c.self.inside.meters.items c.self.inside.idle c.self.inside.samplers c.self.inside.events c.args.key.0 c.index_mut-event.result.now _ _ c.reset.ensures c.self.invariant c.index_mut-event.ensures.value
    (tally-cleared c.self.inside.meters.items c.index_mut-event.result.now c.meter_of-meter.result.now m_is (tally-at c.self.inside.meters.items c.self.inside.idle c.self.inside.samplers c.self.inside.events c.args.key.0 c.index_mut-event.result.now c.self.invariant c.index_mut-event.ensures.value)) (λ place. refl)
