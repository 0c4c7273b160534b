use Rattle.std.proofs.Common.{arith, ◌≡◌, ◌+◌, ◌<◌, ◌^◌, false, refl, sym, ap, subst, ◌∙◌}
use Rattle.stage_spec.specs.Occurrences.{overflows}
use Rattle.event_counts.specs.Counts.{counts_after}
use Rattle.world_tables.specs.{Meters.{goes_along, total_of}, Rows.{row_by, meter_at, after_hit}, Columns.{row_in, put_account, account_in}}
use Rattle.world_tables.proofs.{Written.{there-row, row-is, written-account}, Tallies.{count-apart, sums-hit, left-hit, tally-hit}}
use Rattle.world_tables.proofs.Tables.{tally-at, table-wrote}
use Rattle.world_tables.proofs.event_table.EventTable.hit.Goals as goal

pub index_mut-requires : goal.index_mut-requires
index_mut-requires g c = there-row c.self.inside.meters.items c.self.inside.events c.args.self.now c.args.key c.self.view_is c.requires.there

pub hit-requires-clause-apart : goal.hit-requires-clause-apart
hit-requires-clause-apart g c =
    let here : row_in c.args.self.now c.args.key ≡ row_by (meter_at c.self.inside.meters.items c.index_mut.result.now.tally.cpu) c.index_mut.result.now = row-is c.self.inside.meters.items c.self.inside.events c.args.self.now c.args.key c.index_mut.result.now c.self.view_is c.index_mut.ensures.value in
    (tally-at c.self.inside.meters.items c.self.inside.idle c.self.inside.samplers c.self.inside.events c.args.key.0 c.index_mut.result.now c.self.invariant c.index_mut.ensures.value).along ∙ subst (λ r. goes_along r.entry.instance.attr r.way.on ≡ false) here c.requires.apart

pub hit-requires-clause-fits : goal.hit-requires-clause-fits
hit-requires-clause-fits g c =
    let here : row_in c.args.self.now c.args.key ≡ row_by (meter_at c.self.inside.meters.items c.index_mut.result.now.tally.cpu) c.index_mut.result.now = row-is c.self.inside.meters.items c.self.inside.events c.args.self.now c.args.key c.index_mut.result.now c.self.view_is c.index_mut.ensures.value in
    let fits : (row_by (meter_at c.self.inside.meters.items c.index_mut.result.now.tally.cpu) c.index_mut.result.now).account.sums.count + c.args.n < 2 ^ 63 = subst (λ r. r.account.sums.count + c.args.n < 2 ^ 63) here c.requires.fits in
    omega (arith, fits, count-apart (total_of (meter_at c.self.inside.meters.items c.index_mut.result.now.tally.cpu).clock (meter_at c.self.inside.meters.items c.index_mut.result.now.tally.cpu).totals c.index_mut.result.now.entry.instance.attr) c.index_mut.result.now.tally.counts)

pub returns-clause-account : goal.returns-clause-account
returns-clause-account g c =
    let here : row_in c.args.self.now c.args.key ≡ row_by (meter_at c.self.inside.meters.items c.index_mut.result.now.tally.cpu) c.index_mut.result.now = row-is c.self.inside.meters.items c.self.inside.events c.args.self.now c.args.key c.index_mut.result.now c.self.view_is c.index_mut.ensures.value in
    rw c.hit.ensures.counts
    (written-account c.self.inside.meters.items c.self.inside.events c.args.self.now c.args.key c.index_mut.result.now c.self.view_is c.index_mut.ensures.value (record c.index_mut.result.now.tally { counts = counts_after c.index_mut.result.now.tally.counts c.args.n }) (after_hit c.args.n c.index_mut.result.now.entry.instance.attr.period) refl
    (λ i. record {
      sums = sums-hit (meter_at c.self.inside.meters.items c.index_mut.result.now.tally.cpu) c.index_mut.result.now.entry.instance.attr c.index_mut.result.now.tally c.args.n (tally-at c.self.inside.meters.items c.self.inside.idle c.self.inside.samplers c.self.inside.events c.args.key.0 c.index_mut.result.now c.self.invariant c.index_mut.ensures.value) i;
      left = left-hit (meter_at c.self.inside.meters.items c.index_mut.result.now.tally.cpu) c.index_mut.result.now.entry.instance.attr c.index_mut.result.now.tally c.args.n (tally-at c.self.inside.meters.items c.self.inside.idle c.self.inside.samplers c.self.inside.events c.args.key.0 c.index_mut.result.now c.self.invariant c.index_mut.ensures.value) i;
    })
    ∙ ap (λ r. put_account c.args.key (after_hit c.args.n r.entry.instance.attr.period (account_in c.args.self.now c.args.key)) c.args.self.now) (sym here))

pub returns-clause-overflows : goal.returns-clause-overflows
returns-clause-overflows g c =
    let here : row_in c.args.self.now c.args.key ≡ row_by (meter_at c.self.inside.meters.items c.index_mut.result.now.tally.cpu) c.index_mut.result.now = row-is c.self.inside.meters.items c.self.inside.events c.args.self.now c.args.key c.index_mut.result.now c.self.view_is c.index_mut.ensures.value in
    c.hit.ensures.overflows ∙ ap (λ r. overflows c.args.n r.entry.instance.attr.period r.account.left) (sym here)

pub invariant_of-self : goal.invariant_of-self
invariant_of-self g c =
    let here : row_in c.args.self.now c.args.key ≡ row_by (meter_at c.self.inside.meters.items c.index_mut.result.now.tally.cpu) c.index_mut.result.now = row-is c.self.inside.meters.items c.self.inside.events c.args.self.now c.args.key c.index_mut.result.now c.self.view_is c.index_mut.ensures.value in
    table-wrote c.self.inside.meters.items c.self.inside.idle c.self.inside.samplers c.self.inside.events c.args.key.0 c.index_mut.result.now c.hit.new.self (record c.index_mut.result.now { tally = record c.index_mut.result.now.tally { counts = counts_after c.index_mut.result.now.tally.counts c.args.n } }) c.hit.ensures.counts c.self.invariant c.index_mut.ensures.value
    (tally-hit (meter_at c.self.inside.meters.items c.index_mut.result.now.tally.cpu) c.index_mut.result.now.entry.instance.attr c.index_mut.result.now.tally c.args.n (tally-at c.self.inside.meters.items c.self.inside.idle c.self.inside.samplers c.self.inside.events c.args.key.0 c.index_mut.result.now c.self.invariant c.index_mut.ensures.value) (subst (λ r. r.account.sums.count + c.args.n < 2 ^ 63) here c.requires.fits)) (λ place. refl)
