use Rattle.std.proofs.Common.{arith, ◌≡◌, ◌∙◌, ◌<◌, [], List, length, ap, sym, slice_index_or}
use Rattle.perf_base.specs.declared.numbers.Key.{Key}
use Rattle.perf_base.specs.declared.standing.Standing.TheVariants as standing
use Rattle.world_spec.{specs.{Changes.{set_standing}, Listings.{pass_leaders}, Value.{World, entry_at, is_live, is_key}}, proofs.Moving.{leads-parts}}
use Rattle.cpu_sched.{specs.Adopting.{with_standings}, proofs.{Passing.{leads-at}, Told.{out-next}}}
use Rattle.cpu_sched.proofs.adopting.clear_pass.Goals as goal

pub leaders-requires-clause-cpu : goal.leaders-requires-clause-cpu
leaders-requires-clause-cpu c = omega (arith, c.requires.cpu, ap (λ (w : World). length w.quiet.running) c.loop-place.invariant)

-- the leaders stay as they were
pub bounds-leaders-place : goal.bounds-leaders-place
bounds-leaders-place c =
    let same : c.leaders.result.now ≡ slice_index_or (pass_leaders c.args.world.now c.args.cpu) c.args.pass [] =
    c.leaders.ensures.leaders ∙ ap (λ (w : World). slice_index_or (pass_leaders w c.args.cpu) c.args.pass []) c.loop-place.invariant in
    omega (arith, c.loop-place-test.true, ap length c.leaders-place-end.ensures.leaders, ap length same)

pub set_standing-requires : goal.set_standing-requires
set_standing-requires c =
    let w : World = c.loop-place.world in
    let same : c.leaders.result.now ≡ slice_index_or (pass_leaders c.args.world.now c.args.cpu) c.args.pass [] =
    c.leaders.ensures.leaders ∙ ap (λ (v : World). slice_index_or (pass_leaders v c.args.cpu) c.args.pass []) c.loop-place.invariant in
    let k : Key = slice_index_or c.leaders.result.now c.loop-place.place (record { 0 = 0 }) in
    (leads-parts (is_live w k) (is_key k (entry_at w k).leader)
    (leads-at w.hardware w c.args.cpu c.args.pass c.loop-place.place (record { 0 = 0 }) c.leaders.result.now c.leaders.ensures.kept c.leaders.ensures.leaders
    (omega (arith, c.loop-place-test.true, ap length c.leaders-place-end.ensures.leaders, ap length same)))).0

pub loop-place-preserved : goal.loop-place-preserved
loop-place-preserved c =
    let keys : List Key = slice_index_or (pass_leaders c.args.world.now c.args.cpu) c.args.pass [] in
    let same : c.leaders.result.now ≡ keys = c.leaders.ensures.leaders ∙ ap (λ (w : World). slice_index_or (pass_leaders w c.args.cpu) c.args.pass []) c.loop-place.invariant in
    let low : c.loop-place.place < length keys = omega (arith, c.loop-place-test.true, ap length c.leaders-place-end.ensures.leaders) in
    c.set_standing.ensures.world
    ∙ ((λ i. set_standing (slice_index_or (same i) c.loop-place.place (record { 0 = 0 })) standing.Out (c.loop-place.invariant i))
    ∙ ap (λ m. with_standings m c.args.world.now) (sym (out-next keys c.loop-place.place (record { 0 = 0 }) c.args.world.now.standings low)))
