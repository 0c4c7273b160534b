use Rattle.std.{proofs.{Common.{arith, ℕ, ◌+◌, ◌<◌, ◌++◌, ◌∙◌, List, length, map, ap, sym, subst, take}, lemmas.List.{take_all}}, specs.List.{fold}}
use Rattle.counter_match.specs.Seating.{AreDistinct}
use Rattle.cpu_sched.specs.{declared.group_brief.GroupBrief.{GroupBrief as Stored}, Briefs.{seen, events_in, IsGroupBrief}}
use Rattle.cpu_sched.specs.Plans.{Draft, draft_of, plan_one, planned_of, told_by}
use Rattle.cpu_sched.proofs.{Drafted.{IsDraft, draft-next, group-distinct, group-sound, next-once, taken-next, tried-next}, Served.{slots}}
use Rattle.cpu_sched.proofs.plan.plan_pass.Goals as goal

pub plan_group-so_far-requires-clause-sound : goal.plan_group-so_far-requires-clause-sound
plan_group-so_far-requires-clause-sound g c =
    subst (λ (x : Stored). IsGroupBrief c.loop-group.seats.counters (seen x)) (sym c.group-item.is)
    (group-sound c.args.seats.now.counters c.loop-group.seats.counters c.args.groups.now c.loop-group.group-index c.group-item.result c.loop-group-test.true c.requires.sound c.loop-group.invariant.counters)

pub plan_group-so_far-requires-clause-distinct : goal.plan_group-so_far-requires-clause-distinct
plan_group-so_far-requires-clause-distinct g c =
    subst (λ (x : Stored). AreDistinct (c.loop-group.seats.events ++ x.events)) (sym c.group-item.is)
    (group-distinct c.args.groups.now c.loop-group.group-index c.group-item.result c.args.seats.now.events c.loop-group.seats.events c.loop-group-test.true c.requires.once c.loop-group.invariant.once)

pub plan_group-so_far-requires-clause-room : goal.plan_group-so_far-requires-clause-room
plan_group-so_far-requires-clause-room g c = omega (arith, c.requires.room, c.loop-group.invariant.len, c.loop-group.invariant.capacity, c.loop-group-test.true)

pub loop-group-preserved : goal.loop-group-preserved
loop-group-preserved g c =
    let groups : List Stored = c.args.groups.now in
    let i : ℕ = c.loop-group.group-index in
    let x : Stored = c.group-item.result in
    let start : Draft = draft_of (told_by c.args.verdicts.now.items) c.args.seats.now.events c.args.so_far in
    let here : Draft = draft_of (told_by c.loop-group.verdicts.items) c.loop-group.seats.events c.loop-group.so_far in
    let low : i < length groups = c.loop-group-test.true in
    let draft : IsDraft (fold plan_one start (map seen (take i groups))) (told_by c.loop-group.verdicts.items) c.loop-group.seats.events c.loop-group.so_far =
    record { standings_are = c.loop-group.invariant.standings; events_are = c.loop-group.invariant.events; so_far_is = c.loop-group.invariant.so_far } in
    let next : IsDraft (fold plan_one start (map seen (take (i + 1) groups))) (told_by c.plan_group-so_far.new.verdicts.items) c.plan_group-so_far.new.seats.events c.plan_group-so_far.result =
    draft-next start groups i x (told_by c.loop-group.verdicts.items) (told_by c.plan_group-so_far.new.verdicts.items) c.loop-group.seats.events c.plan_group-so_far.new.seats.events
    c.loop-group.so_far c.plan_group-so_far.result low draft (c.plan_group-so_far.ensures.standings ∙ ap (λ (y : Stored). (plan_one here (seen y)).standings) c.group-item.is)
    (c.plan_group-so_far.ensures.events ∙ ap (λ (y : Stored). (plan_one here (seen y)).events) c.group-item.is)
    (c.plan_group-so_far.ensures.so_far ∙ ap (λ (y : Stored). (plan_one here (seen y)).so_far) c.group-item.is) in
    record {
      standings = next.standings_are;
      events = next.events_are;
      so_far = next.so_far_is;
      counters = c.plan_group-so_far.ensures.counters ∙ c.loop-group.invariant.counters;
      once = λ e. omega (
        arith,
        c.loop-group.invariant.once e,
        ap (slots e) c.plan_group-so_far.ensures.events,
        next-once e (planned_of here (seen x)) x.events c.loop-group.seats.events,
        ap (λ (y : Stored). slots e y.events) c.group-item.is,
        taken-next e groups i x low,
      );
      len = omega (arith, c.plan_group-so_far.ensures.len, c.loop-group.invariant.len);
      capacity = c.plan_group-so_far.ensures.capacity ∙ c.loop-group.invariant.capacity;
      least = omega (arith, c.plan_group-so_far.ensures.least, c.loop-group.invariant.least);
      most = omega (
        arith,
        c.plan_group-so_far.ensures.most,
        c.loop-group.invariant.most,
        ap (λ (y : Stored). (plan_one here (seen y)).tried) c.group-item.is,
        tried-next start groups i x (told_by c.loop-group.verdicts.items) c.loop-group.seats.events c.loop-group.so_far low draft,
      );
    }

pub returns-clause-once : goal.returns-clause-once
returns-clause-once g c = λ e. omega (
  arith,
  c.loop-group.invariant.once e,
  ap (λ gs. slots e (events_in (map seen gs))) (take_all c.loop-group.group-index c.args.groups.now c.loop-group-test.false),
)
