use Rattle.std.proofs.Common.{◌≡◌, ℕ, ◌+◌, ◌<◌, ◌^◌, subst}
use Rattle.perf_base.specs.declared.attr.Attr.{Attr}
use Rattle.stage_spec.specs.Shares.{counted_by}
use Rattle.world_spec.specs.{Kept.{AreSmallTotals}, Metering.{add_hits}}
use Rattle.world_tables.{specs.Meters.{metered, total_of}, proofs.Tables.{clock-is, totals-are, is-worked, are-whole, table-worked}}
use Rattle.world_tables.proofs.event_table.EventTable.add_work.Goals as goal

pub add_work-requires-clause-clock : goal.add_work-requires-clause-clock
add_work-requires-clause-clock g c =
    subst (λ (n : ℕ). n + c.args.work.now.length < 2 ^ 63)
    (clock-is c.self.inside.meters.items c.self.inside.events c.args.self.now c.args.cpu.0 c.index_mut-meter.result.now c.self.view_is c.index_mut-meter.ensures.value c.requires.cpu) c.requires.room.clock

pub add_work-requires-clause-totals : goal.add_work-requires-clause-totals
add_work-requires-clause-totals g c =
    subst (λ x. AreSmallTotals (add_hits c.args.work.now.mode c.args.work.now.hits x))
    (totals-are c.self.inside.meters.items c.self.inside.events c.args.self.now c.args.cpu.0 c.index_mut-meter.result.now c.self.view_is c.index_mut-meter.ensures.value c.requires.cpu) c.requires.room.totals

pub returns-clause-worked : goal.returns-clause-worked
returns-clause-worked g c =
    let gains : (a : Attr) → total_of (metered c.args.work.now c.index_mut-meter.result.now).clock (metered c.args.work.now c.index_mut-meter.result.now).totals a ≡ total_of c.index_mut-meter.result.now.clock c.index_mut-meter.result.now.totals a + counted_by c.args.work.now a a.kind =
    subst (λ x. (a : Attr) → total_of x.clock x.totals a ≡ total_of c.index_mut-meter.result.now.clock c.index_mut-meter.result.now.totals a + counted_by c.args.work.now a a.kind) c.add_work.ensures.meter c.add_work.ensures.total in
    rw c.add_work.ensures.meter
    (is-worked c.self.inside.meters.items c.self.inside.idle c.self.inside.samplers c.self.inside.events c.args.self.now c.args.cpu c.args.work.now c.index_mut-meter.result.now c.self.view_is c.self.invariant c.index_mut-meter.ensures.value c.requires.cpu gains)

pub invariant_of-self : goal.invariant_of-self
invariant_of-self g c =
    let gains : (a : Attr) → total_of (metered c.args.work.now c.index_mut-meter.result.now).clock (metered c.args.work.now c.index_mut-meter.result.now).totals a ≡ total_of c.index_mut-meter.result.now.clock c.index_mut-meter.result.now.totals a + counted_by c.args.work.now a a.kind =
    subst (λ x. (a : Attr) → total_of x.clock x.totals a ≡ total_of c.index_mut-meter.result.now.clock c.index_mut-meter.result.now.totals a + counted_by c.args.work.now a a.kind) c.add_work.ensures.meter c.add_work.ensures.total in
    rw c.add_work.ensures.meter
    (table-worked c.self.inside.meters.items c.self.inside.idle c.self.inside.samplers c.self.inside.events c.args.self.now c.args.cpu c.args.work.now c.index_mut-meter.result.now c.self.view_is c.self.invariant c.index_mut-meter.ensures.value c.requires.cpu gains c.requires.room)

pub returns-clause-whole : goal.returns-clause-whole
returns-clause-whole g c =
    let gains : (a : Attr) → total_of (metered c.args.work.now c.index_mut-meter.result.now).clock (metered c.args.work.now c.index_mut-meter.result.now).totals a ≡ total_of c.index_mut-meter.result.now.clock c.index_mut-meter.result.now.totals a + counted_by c.args.work.now a a.kind =
    subst (λ x. (a : Attr) → total_of x.clock x.totals a ≡ total_of c.index_mut-meter.result.now.clock c.index_mut-meter.result.now.totals a + counted_by c.args.work.now a a.kind) c.add_work.ensures.meter c.add_work.ensures.total in
    are-whole c.self.inside.meters.items c.self.inside.idle c.self.inside.samplers c.self.inside.events c.args.self.now c.args.cpu c.args.work.now c.index_mut-meter.result.now c.self.view_is c.self.invariant c.index_mut-meter.ensures.value c.requires.cpu gains
