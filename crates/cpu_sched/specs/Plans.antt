-- inner
-- The plan of a brief: each group's standing, and the counters that serve the events of the groups that are on. After
-- ctx_sched_in and merge_sched_in of kernel/events/core.c; that this is planned ahead is this project's own profile.
use Rattle.std.specs.{Prelude.{◌≡◌, ℕ, ◌+◌, List, [], ◌∷◌, ◌++◌, length, map, None}, List.{fold, sum_by}}
use Rattle.perf_base.specs.declared.{numbers.{EventNo.{EventNo}, Key.{Key}}, standing.Standing.{Standing}}
use Rattle.stage_spec.specs.{Rules.{ruling_of}, Verdict.{by_ruling}}
use Rattle.stage_laws.specs.Briefs.{GroupBrief, JudgedBrief, judge_brief_passes, standings_by, seated_by}
use Rattle.counter_match.specs.Seating.{Seated}
use Rattle.cpu_sched.specs.{declared.{judging.SoFar.{SoFar}, plan.Verdict.{Verdict}}, Briefs.{ProcessorBrief}, Judging.{events_next, noted}}
use Rattle.cpu_sched.specs.Tried.{tries_for}

-- what a plan tells: the leaders with the standings of their groups, in pass order, and the seats
pub record Planned : Type 0 where
  pub standings : List (Key × Standing)
  pub seats : Seated

-- verdicts as they are stored
abbrev pub told_by : List Verdict → List (Key × Standing)
told_by stored = map (λ v. (v.leader, v.standing)) stored

-- the groups of a brief with their verdicts
abbrev pub judged_groups : ProcessorBrief → List (JudgedBrief Key)
judged_groups b = judge_brief_passes [] b.passes

-- A plan is a brief's where its standings are the verdicts of the brief, and its seats those of what they put on.
pub record IsPlanOf (b : ProcessorBrief) (p : Planned) : Type 0 where
  pub standings : p.standings ≡ standings_by (judged_groups b)
  pub counters : p.seats.counters ≡ b.counters
  pub events : p.seats.events ≡ seated_by (judged_groups b)

-- for how many events of some groups counters are tried, by their verdicts
abbrev pub tried_by : List (JudgedBrief Key) → ℕ
tried_by judged = sum_by (λ j. tries_for j.standing (length j.brief.counted)) judged

-- A plan that grows group by group: the standings so far, the events on the counters, what is noted for the rules, and
-- for how many events counters were tried.
pub record Draft : Type 0 where
  pub standings : List (Key × Standing)
  pub events : List (EventNo × ℕ)
  pub so_far : SoFar
  pub tried : ℕ

-- where a group stands after those that were planned
abbrev pub planned_of : Draft → GroupBrief Key → Standing
planned_of d b = by_ruling (ruling_of b.software b.exclusive d.so_far.exclusive_on d.so_far.first_on d.so_far.refused) (d.events ++ b.counted)

abbrev pub with_planned : GroupBrief Key → Standing → Draft → Draft
with_planned b s d = record {
  standings = d.standings ++ (b.leader, s) ∷ [];
  events = events_next s b.counted d.events;
  so_far = noted b.slot b.software b.exclusive s d.so_far;
  tried = d.tried + tries_for s (length b.counted);
}

abbrev pub plan_one : Draft → GroupBrief Key → Draft
plan_one d b = with_planned b (planned_of d b) d

-- the groups of a pass; in the next one no group was refused yet
abbrev pub plan_pass_of : Draft → List (GroupBrief Key) → Draft
plan_pass_of d groups = record (fold plan_one d groups) { so_far = record (fold plan_one d groups).so_far { refused = None } }

-- a draft before counters are tried
abbrev pub draft_of : List (Key × Standing) → List (EventNo × ℕ) → SoFar → Draft
draft_of standings events so_far = record { standings = standings; events = events; so_far = so_far; tried = 0 }
