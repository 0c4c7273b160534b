-- inner
-- The keys whose groups were judged, and that the events on the counters are theirs. This project's own profile.
use Rattle.std.specs.Prelude.{ℕ, ◌≤◌, ◌==◌, List, map, take, flat_map, count_by}
use Rattle.perf_base.specs.declared.numbers.{CpuNo.{CpuNo}, EventNo.{EventNo}, Key.{Key}}
use Rattle.stage_spec.specs.Stage.{members, is_of_family}
use Rattle.world_spec.specs.{Listings.{pass_leaders}, StageOf.{group_at}, Value.{World}}

-- the leaders of the first passes
abbrev pub told_before : World → CpuNo → ℕ → List Key
told_before w cpu passes = flat_map (λ keys. keys) (take passes (pass_leaders w cpu))

-- Each event stands among some no more often than it has instances in the groups of some leaders.
abbrev pub AreOfTold : World → List Key → List (EventNo × ℕ) → Type 0
AreOfTold w told events = (e : EventNo) → count_by (λ event. event.0.0 == e.0) events ≤ count_by (is_of_family e) (members (map (group_at w) told))
