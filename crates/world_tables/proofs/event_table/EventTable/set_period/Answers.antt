use Rattle.std.proofs.Common.{◌≡◌, ◌≢◌, refl, subst}
use Rattle.world_tables.{specs.{Rows.{row_by, meter_at}, Columns.{row_in}}, proofs.Written.{there-row, row-is, written-counted}}
use Rattle.world_tables.proofs.{Sampling.{sampler-at-same}, Tallies.{sums-period, tally-period}, Tables.{tally-at, table-wrote}}
use Rattle.world_tables.proofs.event_table.EventTable.set_period.Goals as goal

pub index_mut-requires : goal.index_mut-requires
index_mut-requires c = there-row c.self.inside.meters.items c.self.inside.events c.args.self.now c.args.key c.self.view_is c.requires.there

pub set_period-requires-clause-samples : goal.set_period-requires-clause-samples
set_period-requires-clause-samples c =
    let here : row_in c.args.self.now c.args.key ≡ row_by (meter_at c.self.inside.meters.items c.index_mut.result.now.tally.cpu) c.index_mut.result.now = row-is c.self.inside.meters.items c.self.inside.events c.args.self.now c.args.key c.index_mut.result.now c.self.view_is c.index_mut.ensures.value in
    subst (λ r. r.entry.instance.attr.period ≢ 0) here c.requires.samples

pub returns : goal.returns
returns c =
    let here : row_in c.args.self.now c.args.key ≡ row_by (meter_at c.self.inside.meters.items c.index_mut.result.now.tally.cpu) c.index_mut.result.now = row-is c.self.inside.meters.items c.self.inside.events c.args.self.now c.args.key c.index_mut.result.now c.self.view_is c.index_mut.ensures.value in
    let samples : c.index_mut.result.now.entry.instance.attr.period ≢ 0 = subst (λ r. r.entry.instance.attr.period ≢ 0) here c.requires.samples in
    rw c.set_period.ensures (written-counted c.self.inside.meters.items c.self.inside.events c.args.self.now c.args.key c.index_mut.result.now c.self.view_is c.index_mut.ensures.value
    (λ e. record e { instance = record e.instance { attr = record e.instance.attr { period = c.args.period } } })
    (record c.index_mut.result.now.tally { counts = record c.index_mut.result.now.tally.counts { period = c.args.period; left = c.args.period } })
    (λ a. record a { left = c.args.period }) refl
    (λ i. record {
      sums = sums-period (meter_at c.self.inside.meters.items c.index_mut.result.now.tally.cpu) c.index_mut.result.now.entry.instance.attr c.index_mut.result.now.tally c.args.period (tally-at c.self.inside.meters.items c.self.inside.idle c.self.inside.samplers c.self.inside.events c.args.key.0 c.index_mut.result.now c.self.invariant c.index_mut.ensures.value) samples c.requires.still_samples i;
      left = c.args.period;
    }))

pub invariant_of-self : goal.invariant_of-self
invariant_of-self c =
    let here : row_in c.args.self.now c.args.key ≡ row_by (meter_at c.self.inside.meters.items c.index_mut.result.now.tally.cpu) c.index_mut.result.now = row-is c.self.inside.meters.items c.self.inside.events c.args.self.now c.args.key c.index_mut.result.now c.self.view_is c.index_mut.ensures.value in
    let samples : c.index_mut.result.now.entry.instance.attr.period ≢ 0 = subst (λ r. r.entry.instance.attr.period ≢ 0) here c.requires.samples in
    table-wrote c.self.inside.meters.items c.self.inside.idle c.self.inside.samplers c.self.inside.events c.args.key.0 c.index_mut.result.now _ _ c.set_period.ensures c.self.invariant c.index_mut.ensures.value
    (tally-period (meter_at c.self.inside.meters.items c.index_mut.result.now.tally.cpu) c.index_mut.result.now.entry.instance.attr c.index_mut.result.now.tally c.args.period (tally-at c.self.inside.meters.items c.self.inside.idle c.self.inside.samplers c.self.inside.events c.args.key.0 c.index_mut.result.now c.self.invariant c.index_mut.ensures.value) samples c.requires.still_samples)
    (λ place. sampler-at-same place c.index_mut.result.now (record c.index_mut.result.now.entry.instance { attr = record c.index_mut.result.now.entry.instance.attr { period = c.args.period } }) samples c.requires.still_samples)
