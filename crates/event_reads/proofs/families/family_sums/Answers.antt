use Rattle.std.{proofs.Common.{◌≡◌, arith, ap, ◌∙◌, sym, true, subst, List}, specs.Prelude.{All}}
use Rattle.perf_base.specs.declared.numbers.Key.{Key}
use Rattle.stage_spec.specs.Families.{plus}
use Rattle.world_spec.specs.{Kept.{family_sums}, Value.{is_live}}
use Rattle.event_reads.proofs.Whole.{added-up, copies-live, copies-ran, family-ran}
use Rattle.event_reads.proofs.families.family_sums.Goals as goal

pub plus_keys-copies-requires-clause-live : goal.plus_keys-copies-requires-clause-live
plus_keys-copies-requires-clause-live c =
    subst (λ (keys : List Key). All (λ k. is_live c.args.world.now k ≡ true) keys) (sym c.copies_of.ensures.copies)
    (copies-live c.args.world.now.hardware c.args.world.now c.copies_of.ensures.kept c.args.event.0)

pub plus_keys-copies-requires-clause-running : goal.plus_keys-copies-requires-clause-running
plus_keys-copies-requires-clause-running c =
    copies-ran c.args.world.now.hardware c.args.world.now c.copies_of.ensures.kept c.args.event.0 c.copies_of.result.now c.folded.result c.copies_of.ensures.copies c.folded.ensures

whole : (c : goal.After-sums) → plus c.sums.result c.plus_keys-copies.result ≡ family_sums c.args.world.now c.args.event.0
whole c = added-up c.args.world.now.hardware c.args.world.now c.copies_of.ensures.kept c.args.event.0 c.key_of.result c.in-Some.key c.copies_of.result.now c.sums.result c.folded.result
    c.plus_keys-copies.result c.key_of.ensures.key c.in-Some.is c.copies_of.ensures.copies c.folded.ensures c.plus_keys-copies.ensures c.sums.ensures

pub plus-requires-clause-counts : goal.plus-requires-clause-counts
plus-requires-clause-counts c = omega (arith, ap (λ s. s.count) (whole c), c.key_of.ensures.kept.small.counts c.args.event.0)

pub plus-requires-clause-enabled : goal.plus-requires-clause-enabled
plus-requires-clause-enabled c = omega (arith, ap (λ s. s.enabled) (whole c), c.key_of.ensures.kept.small.times c.args.event.0)

pub plus-requires-clause-running : goal.plus-requires-clause-running
plus-requires-clause-running c =
    omega (arith, ap (λ s. s.running) (whole c), family-ran c.args.world.now.hardware c.args.world.now c.copies_of.ensures.kept c.args.event.0)

pub returns-in-Some : goal.returns-in-Some
returns-in-Some c = c.plus.ensures ∙ added-up c.args.world.now.hardware c.args.world.now c.copies_of.ensures.kept c.args.event.0 c.key_of.result c.in-Some.key c.copies_of.result.now c.sums.result c.folded.result
    c.plus_keys-copies.result c.key_of.ensures.key c.in-Some.is c.copies_of.ensures.copies c.folded.ensures c.plus_keys-copies.ensures c.sums.ensures
