-- inner
-- How the groups of a processor are judged one after the other, by what those before leave. After ctx_sched_in,
-- merge_sched_in and group_can_go_on of kernel/events/core.c; the tally is this project's own profile.
use Rattle.std.specs.Prelude.{ℕ, ◌+◌, Bool, true, false, not, ◌&&◌, List, [], ◌∷◌, ◌++◌, Option, Some, None, if◌then◌else◌}
use Rattle.std.specs.{FinMap.{FinMap, insert}, List.{fold}, Ordering.{nat_cmp}}
use Rattle.perf_base.specs.declared.{numbers.{CpuNo.{CpuNo}, EventNo.{EventNo}, Key.{Key}}, standing.Standing.{Standing}}
use Rattle.perf_base.specs.Standings.{stands_on, stands_refused}
use Rattle.perf_base.specs.declared.standing.Standing.TheVariants as standing
use Rattle.stage_spec.specs.{Effective.{name_of, is_wholly_software, is_exclusive_group, counted_members}, Hardware.{Hardware}, Rules.{ruling_of}}
use Rattle.stage_spec.specs.{Stage.{Group}, Verdict.{is_eligible, by_ruling, with_masks}}
use Rattle.world_spec.specs.{Changes.{with_seats}, Value.{World, seats_at}}
use Rattle.counter_match.specs.Seating.{Seated}
use Rattle.cpu_sched.specs.{declared.judging.SoFar.{SoFar}, Adopting.{with_standings}, Tried.{tries}}

-- the name that is there, or the one that comes where a test holds
abbrev pub first_or : Bool → EventNo → Option EventNo → Option EventNo
first_or holds name (Some group) = Some group
first_or holds name None = if holds then Some name else None

-- what is noted of a group with its standing: the first exclusive group on, the first hardware group on, the first that
-- was refused
abbrev pub noted : EventNo → (software exclusive : Bool) → Standing → SoFar → SoFar
noted name software exclusive s f = record {
  exclusive_on = first_or (stands_on s && exclusive) name f.exclusive_on;
  first_on = first_or (stands_on s && not software) name f.first_on;
  refused = first_or (stands_refused s) name f.refused;
}

-- the events on the counters after a group was judged
abbrev pub events_next : Standing → (group events : List (EventNo × ℕ)) → List (EventNo × ℕ)
events_next s group events = if stands_on s then events ++ group else events

-- What was judged so far: the standings of the groups, the events on the counters, and what is noted for the rules.
pub record Tally : Type 0 where
  pub standings : FinMap nat_cmp Standing
  pub events : List (EventNo × ℕ)
  pub so_far : SoFar

-- where a group stands after what was judged: Out where it is not eligible
abbrev pub told_of : Hardware → CpuNo → Group → Tally → Standing
told_of hw cpu g t = elim (is_eligible hw cpu g) [
  | true ↦ by_ruling (ruling_of (is_wholly_software g) (is_exclusive_group g) t.so_far.exclusive_on t.so_far.first_on t.so_far.refused)
      (t.events ++ with_masks hw (counted_members g))
  | false ↦ standing.Out
]

abbrev pub with_told : Hardware → Group → Key → Standing → Tally → Tally
with_told hw g k s t = record {
  standings = insert t.standings k.0 s;
  events = events_next s (with_masks hw (counted_members g)) t.events;
  so_far = noted (name_of g) (is_wholly_software g) (is_exclusive_group g) s t.so_far;
}

abbrev pub tell : Hardware → CpuNo → (Key → Group) → Tally → Key → Tally
tell hw cpu group t k = with_told hw (group k) k (told_of hw cpu (group k) t) t

-- the groups of a pass; in the next one no group was refused yet
abbrev pub next_pass : Tally → Tally
next_pass t = record t { so_far = record t.so_far { refused = None } }

abbrev pub tell_pass : Hardware → CpuNo → (Key → Group) → Tally → List Key → Tally
tell_pass hw cpu group t keys = next_pass (fold (tell hw cpu group) t keys)

-- for how many events of some leaders' groups counters are tried, each group judged after those before it; and so pass
-- after pass
abbrev pub tried_in : Hardware → CpuNo → (Key → Group) → Tally → List Key → ℕ
tried_in hw cpu group t [] = 0
tried_in hw cpu group t (k ∷ keys) = tries (told_of hw cpu (group k) t) (group k) + tried_in hw cpu group (tell hw cpu group t k) keys

abbrev pub tried_passes : Hardware → CpuNo → (Key → Group) → Tally → List (List Key) → ℕ
tried_passes hw cpu group t [] = 0
tried_passes hw cpu group t (keys ∷ passes) = tried_in hw cpu group t keys + tried_passes hw cpu group (tell_pass hw cpu group t keys) passes

-- the tally of a world, with the seats of what was judged, and that before the first group
abbrev pub tally_in : World → Seated → SoFar → Tally
tally_in w seats f = record { standings = w.standings; events = seats.events; so_far = f }

abbrev pub tally_none : World → Tally
tally_none w = record { standings = w.standings; events = []; so_far = record { exclusive_on = None; first_on = None; refused = None } }

-- a world that differs in standings, and one that differs in the seats of one processor too
abbrev pub restood : World → World → World
restood w after = with_standings after.standings w

abbrev pub retold : CpuNo → World → World → World
retold cpu w after = with_standings after.standings (with_seats cpu (seats_at after cpu) w)
