use Rattle.std.proofs.Common.{◌+◌, sym, ap, subst, ◌∙◌}
use Rattle.perf_base.specs.declared.lines.Work.{Work}
use Rattle.stage_spec.specs.Shares.{counted_by}
use Rattle.world_spec.specs.{Kept.{AreSmallTotals}, Metering.{add_hits}}
use Rattle.world_tables.{specs.Meters.{Metered, total_of}, proofs.Tallies.{total-gains, user-worked, kernel-worked, user-fits, kernel-fits}}
use Rattle.world_tables.proofs.meter.Meter.add_work.Goals as goal

pub add_to_each-requires-clause-fits : goal.add_to_each-requires-clause-fits
add_to_each-requires-clause-fits g c =
    let m : Metered = record { clock = c.self.inside.clock; totals = record { user = c.self.inside.user; kernel = c.self.inside.kernel } } in
    let w : Work = c.args.work.now in
    let small : AreSmallTotals (add_hits w.mode w.hits m.totals) = subst (λ x. AreSmallTotals (add_hits w.mode w.hits x.totals)) (sym c.self.view_is) c.requires.totals in
    λ number low. user-fits w.mode m.totals w.hits small c.in-User.is (c.requires.kinds ∙ sym c.self.invariant.0) number

pub add_to_each-requires-in-Kernel-clause-fits : goal.add_to_each-requires-in-Kernel-clause-fits
add_to_each-requires-in-Kernel-clause-fits g c =
    let m : Metered = record { clock = c.self.inside.clock; totals = record { user = c.self.inside.user; kernel = c.self.inside.kernel } } in
    let w : Work = c.args.work.now in
    let small : AreSmallTotals (add_hits w.mode w.hits m.totals) = subst (λ x. AreSmallTotals (add_hits w.mode w.hits x.totals)) (sym c.self.view_is) c.requires.totals in
    λ number low. kernel-fits w.mode m.totals w.hits small c.in-Kernel.is (c.requires.kinds ∙ sym c.self.invariant.1) number

pub returns-in-User-clause-total : goal.returns-in-User-clause-total
returns-in-User-clause-total g c =
    let m : Metered = record { clock = c.self.inside.clock; totals = record { user = c.self.inside.user; kernel = c.self.inside.kernel } } in
    let w : Work = c.args.work.now in
    λ a.
    ap (λ x. total_of x.clock x.totals a) (user-worked m w c.add.new.self c.add.ensures.sum c.add_to_each.new.totals c.in-User.is c.add_to_each.ensures.totals)
    ∙ (total-gains m w a c.self.invariant.0 c.self.invariant.1 c.requires.kinds
    ∙ ap (λ x. total_of x.clock x.totals a + counted_by w a a.kind) c.self.view_is)

pub returns-in-Kernel-clause-total : goal.returns-in-Kernel-clause-total
returns-in-Kernel-clause-total g c =
    let m : Metered = record { clock = c.self.inside.clock; totals = record { user = c.self.inside.user; kernel = c.self.inside.kernel } } in
    let w : Work = c.args.work.now in
    λ a.
    ap (λ x. total_of x.clock x.totals a) (kernel-worked m w c.add.new.self c.add.ensures.sum c.add_to_each-in-Kernel.new.totals c.in-Kernel.is c.add_to_each-in-Kernel.ensures.totals)
    ∙ (total-gains m w a c.self.invariant.0 c.self.invariant.1 c.requires.kinds
    ∙ ap (λ x. total_of x.clock x.totals a + counted_by w a a.kind) c.self.view_is)
