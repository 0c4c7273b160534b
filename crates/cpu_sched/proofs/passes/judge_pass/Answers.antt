use Rattle.std.proofs.Common.{arith, ◌≡◌, ◌∙◌, ◌<◌, ◌+◌, ◌++◌, [], ◌∷◌, List, length, ap, sym, subst, refl, take, slice_index_or, append_assoc}
use Rattle.std.{proofs.lemmas.List.{append-nil, take_all}, specs.List.{fold}}
use Rattle.perf_base.specs.declared.numbers.Key.{Key}
use Rattle.stage_spec.specs.{Effective.{counted_members}, Hardware.{counters_of}, Verdict.{with_masks}}
use Rattle.counter_match.specs.Seating.{AreDistinct}
use Rattle.world_spec.specs.{Listings.{pass_leaders}, StageOf.{group_at}, Value.{World}}
use Rattle.cpu_sched.{specs.{Judging.{Tally, tally_in, tell, tried_in}, Passes.{AreOfTold, told_before}}, proofs.Passing.{leads-at}}
use Rattle.cpu_sched.proofs.{Retold.{restood-twice, restood-list, restood-told, told-then, events-then, told-next}, Served.{next-distinct}, Tried.{tried-then}}
use Rattle.cpu_sched.proofs.passes.judge_pass.Goals as goal
use Rattle.perf_world.proofs.Turning.{take-next}

pub loop-place-init : goal.loop-place-init
loop-place-init g c = record {
  world = refl;
  tally = refl;
  counters = refl;
  events = subst (λ ks. AreOfTold c.args.world.now ks c.args.seats.now.events) (sym (append-nil (told_before c.args.world.now c.args.cpu c.args.pass))) c.requires.events;
  least = omega arith;
  most = omega arith;
}

pub leaders-requires-clause-cpu : goal.leaders-requires-clause-cpu
leaders-requires-clause-cpu g c = omega (arith, c.requires.cpu, ap (λ (w : World). length w.quiet.running) c.loop-place.invariant.world)

pub bounds-leaders-place : goal.bounds-leaders-place
bounds-leaders-place g c =
    omega (
      arith,
      c.loop-place-test.true,
      ap length c.leaders-place-end.ensures.leaders,
      ap length (restood-list c.args.cpu c.args.world.now c.loop-place.world c.args.pass c.leaders.result.now c.loop-place.invariant.world c.leaders.ensures.leaders),
    )

pub tell-so_far-requires-clause-leads : goal.tell-so_far-requires-clause-leads
tell-so_far-requires-clause-leads g c =
    leads-at c.loop-place.world.hardware c.loop-place.world c.args.cpu c.args.pass c.loop-place.place (record { 0 = 0 }) c.leaders.result.now c.leaders.ensures.kept c.leaders.ensures.leaders
    (omega (
      arith,
      c.loop-place-test.true,
      ap length c.leaders-place-end.ensures.leaders,
      ap length (restood-list c.args.cpu c.args.world.now c.loop-place.world c.args.pass c.leaders.result.now c.loop-place.invariant.world c.leaders.ensures.leaders),
    ))

pub tell-so_far-requires-clause-counters : goal.tell-so_far-requires-clause-counters
tell-so_far-requires-clause-counters g c =
    c.loop-place.invariant.counters ∙ (c.requires.counters ∙ sym (ap (λ (w : World). counters_of w.hardware c.args.cpu) c.loop-place.invariant.world))

pub tell-so_far-requires-clause-distinct : goal.tell-so_far-requires-clause-distinct
tell-so_far-requires-clause-distinct g c =
    let keys : List Key = slice_index_or (pass_leaders c.args.world.now c.args.cpu) c.args.pass [] in
    let same : c.leaders.result.now ≡ keys =
    restood-list c.args.cpu c.args.world.now c.loop-place.world c.args.pass c.leaders.result.now c.loop-place.invariant.world c.leaders.ensures.leaders in
    let k : Key = slice_index_or c.leaders.result.now c.loop-place.place (record { 0 = 0 }) in
    let low : c.loop-place.place < length keys = omega (arith, c.loop-place-test.true, ap length c.leaders-place-end.ensures.leaders) in
    let is : k ≡ slice_index_or keys c.loop-place.place (record { 0 = 0 }) = ap (λ ks. slice_index_or ks c.loop-place.place (record { 0 = 0 })) same in
    let next : take (c.loop-place.place + 1) keys ≡ take c.loop-place.place keys ++ k ∷ [] =
    take-next keys c.loop-place.place (record { 0 = 0 }) low ∙ ap (λ q. take c.loop-place.place keys ++ q ∷ []) (sym is) in
    subst (λ (w : World). AreDistinct (c.loop-place.seats.events ++ with_masks w.hardware (counted_members (group_at w k)))) (sym c.loop-place.invariant.world)
    (next-distinct c.args.world.now.hardware c.args.world.now c.args.cpu c.args.pass c.loop-place.place k c.loop-place.seats.events c.leaders-place-end.ensures.kept next c.loop-place.invariant.events)

pub loop-place-preserved : goal.loop-place-preserved
loop-place-preserved g c =
    let keys : List Key = slice_index_or (pass_leaders c.args.world.now c.args.cpu) c.args.pass [] in
    let same : c.leaders.result.now ≡ keys =
    restood-list c.args.cpu c.args.world.now c.loop-place.world c.args.pass c.leaders.result.now c.loop-place.invariant.world c.leaders.ensures.leaders in
    let k : Key = slice_index_or c.leaders.result.now c.loop-place.place (record { 0 = 0 }) in
    let low : c.loop-place.place < length keys = omega (arith, c.loop-place-test.true, ap length c.leaders-place-end.ensures.leaders) in
    let is : k ≡ slice_index_or keys c.loop-place.place (record { 0 = 0 }) = ap (λ ks. slice_index_or ks c.loop-place.place (record { 0 = 0 })) same in
    let next : take (c.loop-place.place + 1) keys ≡ take c.loop-place.place keys ++ k ∷ [] =
    take-next keys c.loop-place.place (record { 0 = 0 }) low ∙ ap (λ q. take c.loop-place.place keys ++ q ∷ []) (sym is) in
    let told : List Key = told_before c.args.world.now c.args.cpu c.args.pass in
    let start : Tally = tally_in c.args.world.now c.args.seats.now c.args.so_far in
    let here : Tally = tally_in c.loop-place.world c.loop-place.seats c.loop-place.so_far in
    let now : Tally = tally_in c.tell-so_far.new.world c.tell-so_far.new.seats c.tell-so_far.result in
    record {
      world = restood-twice c.args.world.now c.loop-place.world c.tell-so_far.new.world c.loop-place.invariant.world c.tell-so_far.ensures.world;
      tally = told-then c.args.cpu c.args.world.now c.loop-place.world start here now (take c.loop-place.place keys) k c.loop-place.invariant.world c.loop-place.invariant.tally c.tell-so_far.ensures.tally
          ∙ ap (fold (tell c.args.world.now.hardware c.args.cpu (group_at c.args.world.now)) start) (sym next);
      counters = c.tell-so_far.ensures.counters ∙ c.loop-place.invariant.counters;
      events = subst (λ ks. AreOfTold c.args.world.now ks c.tell-so_far.new.seats.events) (append_assoc told (take c.loop-place.place keys) (k ∷ []) ∙ ap (λ ks. told ++ ks) (sym next))
          (events-then c.args.cpu c.args.world.now c.loop-place.world here now (told ++ take c.loop-place.place keys) k c.loop-place.invariant.world c.loop-place.invariant.events c.tell-so_far.ensures.tally);
      least = omega (arith, c.loop-place.invariant.least, c.tell-so_far.ensures.least);
      most = omega (
        arith,
        c.loop-place.invariant.most,
        c.tell-so_far.ensures.most,
        tried-then c.args.cpu c.args.world.now c.loop-place.world start here (take c.loop-place.place keys) k c.loop-place.invariant.world c.loop-place.invariant.tally,
        ap (tried_in c.args.world.now.hardware c.args.cpu (group_at c.args.world.now) start) next,
      );
    }

pub returns-clause-events : goal.returns-clause-events
returns-clause-events g c =
    let keys : List Key = slice_index_or (pass_leaders c.args.world.now c.args.cpu) c.args.pass [] in
    let all : take c.loop-place.place keys ≡ keys = take_all c.loop-place.place keys (omega (arith, c.loop-place-test.false, ap length c.leaders-place-end.ensures.leaders)) in
    restood-told c.args.cpu c.args.world.now c.loop-place.world (c.args.pass + 1) c.loop-place.seats.events c.loop-place.invariant.world
    (subst (λ ks. AreOfTold c.args.world.now ks c.loop-place.seats.events)
    (ap (λ ks. told_before c.args.world.now c.args.cpu c.args.pass ++ ks) all ∙ sym (told-next c.args.world.now c.args.cpu c.args.pass c.requires.pass))
    c.loop-place.invariant.events)

pub returns-clause-most : goal.returns-clause-most
returns-clause-most g c =
    let keys : List Key = slice_index_or (pass_leaders c.args.world.now c.args.cpu) c.args.pass [] in
    let all : take c.loop-place.place keys ≡ keys = take_all c.loop-place.place keys (omega (arith, c.loop-place-test.false, ap length c.leaders-place-end.ensures.leaders)) in
    omega (
      arith,
      c.loop-place.invariant.most,
      ap (tried_in c.args.world.now.hardware c.args.cpu (group_at c.args.world.now) (tally_in c.args.world.now c.args.seats.now c.args.so_far)) all,
    )
