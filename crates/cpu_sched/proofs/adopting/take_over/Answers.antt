use Rattle.std.proofs.Common.{arith, ◌≡◌, ◌∙◌, ◌<◌, All, length, ap, sym, subst, true}
use Rattle.world_spec.specs.{Changes.{with_seats}, Value.{World, is_live, seats_at}}
use Rattle.cpu_sched.specs.{Adopting.{with_standings, told_standings}, Briefs.{present_brief}, Plans.{IsPlanOf}}
use Rattle.cpu_sched.proofs.Adopted.{TookOver, adopted-judged, adopted-others, planned-live, took-over}
use Rattle.cpu_sched.proofs.adopting.take_over.Goals as goal

-- all that is planned is there
pub tell_standings-requires : goal.tell_standings-requires
tell_standings-requires c =
    let plan : IsPlanOf (present_brief c.args.world.now c.args.cpu) c.args.plan.now = subst (λ b. IsPlanOf b c.args.plan.now) c.requires.brief c.requires.plan in
    subst (λ xs. All (λ told. is_live c.clear_passes.new.world told.0 ≡ true) xs) (sym c.verdicts.ensures)
    (subst (λ (w : World). All (λ told. is_live w told.0 ≡ true) c.args.plan.now.standings) (sym c.clear_passes.ensures)
    (planned-live c.args.world.now c.args.cpu c.args.plan.now c.use_processor.ensures.kept plan))

pub set_seats-requires-clause-cpu : goal.set_seats-requires-clause-cpu
set_seats-requires-clause-cpu c =
    omega (arith, c.requires.cpu, ap (λ (w : World). length w.quiet.running) c.tell_standings.ensures, ap (λ (w : World). length w.quiet.running) c.clear_passes.ensures)

pub set_seats-requires-clause-counters : goal.set_seats-requires-clause-counters
set_seats-requires-clause-counters c =
    let plan : IsPlanOf (present_brief c.args.world.now c.args.cpu) c.args.plan.now = subst (λ b. IsPlanOf b c.args.plan.now) c.requires.brief c.requires.plan in
    let low : c.args.cpu.0 < length c.args.world.now.quiet.seats = omega (arith, c.requires.cpu, c.use_processor.ensures.kept.tables.seats) in
    ap (λ (w : World). (seats_at w c.args.cpu).counters) c.tell_standings.ensures
    ∙ (ap (λ (w : World). (seats_at w c.args.cpu).counters) c.clear_passes.ensures
    ∙ (c.use_processor.ensures.kept.seated.counters c.args.cpu low ∙ (sym plan.counters ∙ ap (λ s. s.counters) (sym c.seats.ensures))))

pub use_processor-requires-2 : goal.use_processor-requires-2
use_processor-requires-2 c =
    omega (
      arith,
      c.requires.cpu,
      ap (λ (w : World). length w.quiet.running) c.set_seats.ensures.world,
      ap (λ (w : World). length w.quiet.running) c.tell_standings.ensures,
      ap (λ (w : World). length w.quiet.running) c.clear_passes.ensures,
    )

-- what the world has taken over
took : (c : goal.After-use_processor-2) → TookOver c.args.world.now c.set_seats.new.self c.args.cpu c.args.plan.now
took c =
    let plan : IsPlanOf (present_brief c.args.world.now c.args.cpu) c.args.plan.now = subst (λ b. IsPlanOf b c.args.plan.now) c.requires.brief c.requires.plan in
    let told : c.tell_standings.new.world ≡ with_standings (told_standings c.args.plan.now.standings c.clear_passes.new.world.standings) c.clear_passes.new.world =
    c.tell_standings.ensures ∙ ap (λ xs. with_standings (told_standings xs c.clear_passes.new.world.standings) c.clear_passes.new.world) c.verdicts.ensures in
    let seated : c.set_seats.new.self ≡ with_seats c.args.cpu c.args.plan.now.seats c.tell_standings.new.world =
    c.set_seats.ensures.world ∙ ap (λ s. with_seats c.args.cpu s c.tell_standings.new.world) c.seats.ensures in
    took-over c.args.world.now c.clear_passes.new.world c.tell_standings.new.world c.set_seats.new.self c.args.cpu c.args.plan.now c.use_processor.ensures.kept c.use_processor-2.ensures.kept c.requires.cpu plan c.clear_passes.ensures told seated

pub returns-clause-world : goal.returns-clause-world
returns-clause-world c = (took c).world

pub returns-clause-judged : goal.returns-clause-judged
returns-clause-judged c = adopted-judged c.args.world.now c.set_seats.new.self c.args.cpu c.args.plan.now (took c)

pub returns-clause-others : goal.returns-clause-others
returns-clause-others c = adopted-others c.args.world.now c.set_seats.new.self c.args.cpu c.args.plan.now (took c)

pub returns-clause-seats : goal.returns-clause-seats
returns-clause-seats c = (took c).seats
