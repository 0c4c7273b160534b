use Rattle.std.proofs.Common.{arith, ◌≡◌, ◌∙◌, ◌<◌, [], List, length, ap, take, slice_index_or}
use Rattle.perf_base.specs.declared.numbers.Key.{Key}
use Rattle.world_spec.specs.{Listings.{pass_leaders}, Rescheduled.{fail_group}, Value.{World}}
use Rattle.cpu_sched.proofs.Passing.{failed-list, failed-running, leads-at, failed-next}
use Rattle.cpu_sched.proofs.failing.fail_pass.Goals as goal

pub leaders-requires-clause-cpu : goal.leaders-requires-clause-cpu
leaders-requires-clause-cpu c =
    omega (arith, c.requires.cpu, ap (λ (w : World). length w.quiet.running) c.loop-place.invariant, failed-running (take c.loop-place.place (slice_index_or (pass_leaders c.args.world.now c.args.cpu) c.args.pass [])) c.args.world.now)

pub bounds-leaders-place : goal.bounds-leaders-place
bounds-leaders-place c =
    let keys : List Key = slice_index_or (pass_leaders c.args.world.now c.args.cpu) c.args.pass [] in
    omega (
      arith,
      c.loop-place-test.true,
      ap length c.leaders-place-end.ensures.leaders,
      ap length (failed-list c.leaders.result.now (take c.loop-place.place keys) c.args.world.now c.loop-place.world c.args.cpu c.args.pass c.loop-place.invariant c.leaders.ensures.leaders),
    )

pub fail-requires : goal.fail-requires
fail-requires c =
    let keys : List Key = slice_index_or (pass_leaders c.args.world.now c.args.cpu) c.args.pass [] in
    leads-at c.loop-place.world.hardware c.loop-place.world c.args.cpu c.args.pass c.loop-place.place (record { 0 = 0 }) c.leaders.result.now c.leaders.ensures.kept c.leaders.ensures.leaders
    (omega (
      arith,
      c.loop-place-test.true,
      ap length c.leaders-place-end.ensures.leaders,
      ap length (failed-list c.leaders.result.now (take c.loop-place.place keys) c.args.world.now c.loop-place.world c.args.cpu c.args.pass c.loop-place.invariant c.leaders.ensures.leaders),
    ))

pub loop-place-preserved : goal.loop-place-preserved
loop-place-preserved c =
    let keys : List Key = slice_index_or (pass_leaders c.args.world.now c.args.cpu) c.args.pass [] in
    let same : c.leaders.result.now ≡ keys =
    failed-list c.leaders.result.now (take c.loop-place.place keys) c.args.world.now c.loop-place.world c.args.cpu c.args.pass c.loop-place.invariant c.leaders.ensures.leaders in
    let low : c.loop-place.place < length keys = omega (arith, c.loop-place-test.true, ap length c.leaders-place-end.ensures.leaders) in
    c.fail.ensures
    ∙ ((λ i. fail_group (c.loop-place.invariant i) (slice_index_or (same i) c.loop-place.place (record { 0 = 0 })))
    ∙ failed-next keys c.loop-place.place (record { 0 = 0 }) c.args.world.now low)
