-- inner
-- What a walk over the instances that a processor reaches has before it. The order of the passes is that of
-- ctx_sched_in of kernel/events/core.c; the walk is this project's own profile.
use Rattle.std.specs.Prelude.{◌≡◌, ℕ, List, [], ◌∷◌, ◌++◌, drop, flat_map, Option, Some, None, slice_index_or}
use Rattle.perf_base.specs.declared.numbers.{CpuNo.{CpuNo}, Key.{Key}}
use Rattle.world_spec.specs.{Value.{World}, Listings.{pass_leaders}}
use Rattle.work_account.specs.declared.{happening.Happening.{Happening}, overflowing.Hit.{Hit}, walking.Walk.{Walk}}
use Rattle.work_account.specs.Visits.{hits_among, members_at, all_members}

-- the members of some groups, without those of the first one before a place in it
abbrev pub from_member : World → ℕ → List Key → List Key
from_member w member [] = []
from_member w member (leader ∷ leaders) = drop member (members_at w leader) ++ all_members w leaders

-- of some lists of groups, without those of the first one before a group and a place in it
abbrev pub from_group : World → ℕ → ℕ → List (List Key) → List Key
from_group w group member [] = []
from_group w group member (leaders ∷ lists) = from_member w member (drop group leaders) ++ all_members w (flat_map (λ l. l) lists)

-- the leaders of a pass, and what a processor reaches from the place of a walk on
abbrev pub pass_list : World → CpuNo → ℕ → List Key
pass_list w cpu pass = slice_index_or (pass_leaders w cpu) pass []

abbrev pub keys_from : World → CpuNo → Walk → List Key
keys_from w cpu walk = from_group w walk.group walk.member (drop walk.pass (pass_leaders w cpu))

-- The first hit among some keys is found, and those among the rest come after it; or there is none.
abbrev pub Finds : Happening → World → List Key → Option Hit → List Key → Type 0
Finds x w keys None rest = hits_among x w keys ≡ []
Finds x w keys (Some h) rest = hits_among x w keys ≡ h ∷ hits_among x w rest
