use Rattle.std.{proofs.{Common.{arith, ◌≡◌, ◌∙◌, ◌<◌, length, ap, refl, sym, subst, take}, lemmas.List.{take_all}}, specs.List.{fold}}
use Rattle.stage_spec.specs.Hardware.{counters_of}
use Rattle.world_spec.specs.{Kept.{IsKept}, Listings.{pass_leaders}, StageOf.{group_at}, Value.{World, seats_at}}
use Rattle.cpu_sched.specs.Judging.{tally_in, tally_none, tell_pass, tried_passes}
use Rattle.cpu_sched.proofs.{Judged.{is_tallied, all-judged, others-stand}, Retold.{restood-twice, pass-then, seated-at, seated-then}, Served.{slots}, Tried.{passes-then, all-tried}}
use Rattle.cpu_sched.proofs.passes.judge_all.Given.{Over}
use Rattle.cpu_sched.proofs.passes.judge_all.Goals as goal

pub loop-pass-init : goal.loop-pass-init
loop-pass-init g c = record {
  world = refl;
  tally = λ i. tally_in c.args.world.now (c.new-seats.ensures i) (c.new-so_far.ensures i);
  counters = ap (λ s. s.counters) c.new-seats.ensures ∙ (c.counters.ensures.number ∙ ap (λ hw. counters_of hw c.args.cpu) c.pmus.ensures.pmus);
  events = λ e. omega (arith, ap (λ s. slots e s.events) c.new-seats.ensures);
  least = omega (arith, ap (λ s. length s.events) c.new-seats.ensures);
  most = omega arith;
}

pub judge_pass-so_far-requires-clause-cpu : goal.judge_pass-so_far-requires-clause-cpu
judge_pass-so_far-requires-clause-cpu g c = omega (arith, c.requires, ap (λ (w : World). length w.quiet.running) c.loop-pass.invariant.world)

pub judge_pass-so_far-requires-clause-counters : goal.judge_pass-so_far-requires-clause-counters
judge_pass-so_far-requires-clause-counters g c = c.loop-pass.invariant.counters ∙ sym (ap (λ (w : World). counters_of w.hardware c.args.cpu) c.loop-pass.invariant.world)

pub loop-pass-preserved : goal.loop-pass-preserved
loop-pass-preserved g c = record {
  world = restood-twice c.args.world.now c.loop-pass.world c.judge_pass-so_far.new.world c.loop-pass.invariant.world c.judge_pass-so_far.ensures.world;
  tally = pass-then c.args.cpu c.args.world.now c.loop-pass.world (tally_none c.args.world.now) (tally_in c.loop-pass.world c.loop-pass.seats c.loop-pass.so_far)
      (tally_in c.judge_pass-so_far.new.world c.judge_pass-so_far.new.seats c.judge_pass-so_far.result) c.loop-pass.pass c.loop-pass-test.true
      c.loop-pass.invariant.world c.loop-pass.invariant.tally c.judge_pass-so_far.ensures.tally;
  counters = c.judge_pass-so_far.ensures.counters ∙ c.loop-pass.invariant.counters;
  events = c.judge_pass-so_far.ensures.events;
  least = omega (arith, c.loop-pass.invariant.least, c.judge_pass-so_far.ensures.least);
  most = omega (
    arith,
    c.loop-pass.invariant.most,
    c.judge_pass-so_far.ensures.most,
    passes-then c.args.cpu c.args.world.now c.loop-pass.world (tally_none c.args.world.now) (tally_in c.loop-pass.world c.loop-pass.seats c.loop-pass.so_far) c.loop-pass.pass
        c.loop-pass-test.true c.loop-pass.invariant.world c.loop-pass.invariant.tally,
  );
}

pub set_seats-requires-clause-cpu : goal.set_seats-requires-clause-cpu
set_seats-requires-clause-cpu g c = omega (arith, c.requires, ap (λ (w : World). length w.quiet.running) c.loop-pass.invariant.world)

pub set_seats-requires-clause-counters : goal.set_seats-requires-clause-counters
set_seats-requires-clause-counters g c =
    let low : c.args.cpu.0 < length c.args.world.now.quiet.seats = omega (arith, c.requires, c.use_processor.ensures.kept.tables.seats) in
    ap (λ (w : World). (seats_at w c.args.cpu).counters) c.loop-pass.invariant.world ∙ (c.use_processor.ensures.kept.seated.counters c.args.cpu low ∙ sym c.loop-pass.invariant.counters)

pub use_processor-requires-2 : goal.use_processor-requires-2
use_processor-requires-2 g c =
    omega (arith, c.requires, ap (λ (w : World). length w.quiet.running) c.loop-pass.invariant.world, ap (λ (w : World). length w.quiet.running) c.set_seats.ensures.world)

-- the seats that the processor gets, and that all its groups are told
low : (g : Over) (c : goal.After-use_processor-2 g) → c.args.cpu.0 < length c.args.world.now.quiet.seats
low g c = omega (arith, c.requires, c.use_processor.ensures.kept.tables.seats)

seats-are : (g : Over) (c : goal.After-use_processor-2 g) → seats_at c.set_seats.new.self c.args.cpu ≡ c.loop-pass.seats
seats-are g c = seated-at c.args.cpu c.args.world.now c.loop-pass.world c.set_seats.new.self c.loop-pass.seats (low g c) c.loop-pass.invariant.world c.set_seats.ensures.world

all-passes : (g : Over) (c : goal.After-use_processor-2 g) → take c.loop-pass.pass (pass_leaders c.args.world.now c.args.cpu) ≡ pass_leaders c.args.world.now c.args.cpu
all-passes g c = take_all c.loop-pass.pass (pass_leaders c.args.world.now c.args.cpu) (omega (arith, c.loop-pass-test.false))

tallied : (g : Over) (c : goal.After-use_processor-2 g) → is_tallied c.args.world.now (tally_in c.set_seats.new.self (seats_at c.set_seats.new.self c.args.cpu) c.loop-pass.so_far) c.args.cpu
tallied g c =
    (λ i. tally_in (c.set_seats.ensures.world i) (seats-are g c i) c.loop-pass.so_far)
    ∙ (c.loop-pass.invariant.tally
    ∙ ap (fold (tell_pass c.args.world.now.hardware c.args.cpu (group_at c.args.world.now)) (tally_none c.args.world.now)) (all-passes g c))

pub returns-clause-world : goal.returns-clause-world
returns-clause-world g c =
    seated-then c.args.cpu c.args.world.now c.loop-pass.world c.set_seats.new.self c.loop-pass.seats (low g c) c.loop-pass.invariant.world c.set_seats.ensures.world

pub returns-clause-judged : goal.returns-clause-judged
returns-clause-judged g c =
    let hardware : c.set_seats.new.self.hardware ≡ c.args.world.now.hardware = ap (λ (w : World). w.hardware) c.set_seats.ensures.world ∙ ap (λ (w : World). w.hardware) c.loop-pass.invariant.world in
    all-judged c.args.world.now c.set_seats.new.self c.args.cpu c.loop-pass.so_far c.use_processor.ensures.kept (subst (λ hw. IsKept hw c.set_seats.new.self) hardware c.use_processor-2.ensures.kept) (low g c)
    (seated-then c.args.cpu c.args.world.now c.loop-pass.world c.set_seats.new.self c.loop-pass.seats (low g c) c.loop-pass.invariant.world c.set_seats.ensures.world) (tallied g c)

pub returns-clause-others : goal.returns-clause-others
returns-clause-others g c = others-stand c.args.world.now c.set_seats.new.self c.args.cpu c.loop-pass.so_far c.use_processor.ensures.kept (tallied g c)

-- no event is on the counters at first
pub returns-clause-least : goal.returns-clause-least
returns-clause-least g c = omega (arith, c.loop-pass.invariant.least, ap (λ s. length s.events) (seats-are g c))

pub returns-clause-most : goal.returns-clause-most
returns-clause-most g c =
    omega (
      arith,
      c.loop-pass.invariant.most,
      ap (tried_passes c.args.world.now.hardware c.args.cpu (group_at c.args.world.now) (tally_none c.args.world.now)) (all-passes g c),
      all-tried c.args.world.now c.args.cpu c.use_processor.ensures.kept,
    )
