use Rattle.std.proofs.Common.{◌≡◌, sym, ap, subst, ◌∙◌}
use Rattle.world_tables.{specs.{Meters.{IsTally, sums_at}, Rows.{meter_at}}, proofs.{Written.{there-row, row-is}, Tables.{tally-at, meter-found}}}
use Rattle.world_tables.proofs.event_table.EventTable.sums.Goals as goal

pub index-event-requires : goal.index-event-requires
index-event-requires c = there-row c.self.inside.meters.items c.self.inside.events c.args.self.now c.args.key c.self.view_is c.requires

pub sums-requires : goal.sums-requires
sums-requires c =
    let m_is : c.meter_of.result.now ≡ (meter_at c.self.inside.meters.items c.index-event.result.now.tally.cpu) = meter-found c.self.inside.meters.items c.deref.result.now c.self.inside.idle c.meter_of.result.now c.cpu.result c.index-event.result.now.tally.cpu c.deref.ensures.value c.self.invariant.idle c.meter_of.ensures c.cpu.ensures in
    subst (λ x. IsTally x c.index-event.result.now.entry.instance.attr c.index-event.result.now.tally) (sym m_is) (tally-at c.self.inside.meters.items c.self.inside.idle c.self.inside.samplers c.self.inside.events c.args.key.0 c.index-event.result.now c.self.invariant c.index-event.ensures)

pub returns : goal.returns
returns c =
    let m_is : c.meter_of.result.now ≡ (meter_at c.self.inside.meters.items c.index-event.result.now.tally.cpu) = meter-found c.self.inside.meters.items c.deref.result.now c.self.inside.idle c.meter_of.result.now c.cpu.result c.index-event.result.now.tally.cpu c.deref.ensures.value c.self.invariant.idle c.meter_of.ensures c.cpu.ensures in
    c.sums.ensures ∙ (ap (λ x. sums_at x c.index-event.result.now.entry.instance.attr c.index-event.result.now.tally) m_is ∙ ap (λ r. r.account.sums) (sym (row-is c.self.inside.meters.items c.self.inside.events c.args.self.now c.args.key c.index-event.result.now c.self.view_is c.index-event.ensures)))
