-- inner
-- What a processor's schedule is planned from: its eligible groups, pass by pass. The passes are those of ctx_sched_in
-- of kernel/events/core.c; the bounds are this project's own profile.
use Rattle.std.specs.Prelude.{◌≡◌, ℕ, ◌<◌, ◌≤◌, ◌==◌, true, All, List, [], ◌∷◌, length, map, filter, flat_map, count_by}
use Rattle.perf_base.specs.{Masks.{IsMask}, declared.numbers.{CpuNo.{CpuNo}, EventNo.{EventNo}, Key.{Key}}}
use Rattle.stage_spec.specs.{Hardware.{counters_of}, Tight.{masks_of}, Verdict.{is_eligible}}
use Rattle.stage_laws.specs.{Briefs.{GroupBrief}, Standings.{brief_of}}
use Rattle.world_spec.specs.{Listings.{pass_leaders}, StageOf.{group_at}, Value.{World}}
use Rattle.cpu_sched.specs.declared.group_brief.GroupBrief.{GroupBrief as Stored}

-- a group's brief as it is stored
abbrev pub seen : Stored → GroupBrief Key
seen b = record { leader = b.leader; slot = b.name; software = b.software; exclusive = b.exclusive; counted = b.events }

-- a whole processor's: how many counters it has, and the briefs of its eligible groups in each of the four passes
pub record ProcessorBrief : Type 0 where
  pub counters : ℕ
  pub passes : List (List (GroupBrief Key))

abbrev pub brief_seen : ℕ → (own_pinned task_pinned own_flexible task_flexible : List Stored) → ProcessorBrief
brief_seen counters own_pinned task_pinned own_flexible task_flexible = record {
  counters = counters;
  passes = map seen own_pinned ∷ map seen task_pinned ∷ map seen own_flexible ∷ map seen task_flexible ∷ [];
}

-- all its groups in pass order, and their events with their masks
abbrev pub groups_in : ProcessorBrief → List (GroupBrief Key)
groups_in b = flat_map (λ pass. pass) b.passes

abbrev pub events_in : List (GroupBrief Key) → List (EventNo × ℕ)
events_in groups = flat_map (λ g. g.counted) groups

-- the brief of a leader's group: that of the stage, with the leader by its key
abbrev pub brief_at : World → Key → GroupBrief Key
brief_at w k = record {
  leader = k;
  slot = (brief_of w.hardware (group_at w k)).slot;
  software = (brief_of w.hardware (group_at w k)).software;
  exclusive = (brief_of w.hardware (group_at w k)).exclusive;
  counted = (brief_of w.hardware (group_at w k)).counted;
}

-- the briefs of those of some leaders whose groups are eligible on a processor
abbrev pub briefs_at : World → CpuNo → List Key → List (GroupBrief Key)
briefs_at w cpu keys = map (brief_at w) (filter (λ k. is_eligible w.hardware cpu (group_at w k)) keys)

-- the brief of a processor as it is
abbrev pub present_brief : World → CpuNo → ProcessorBrief
present_brief w cpu = record { counters = counters_of w.hardware cpu; passes = map (briefs_at w cpu) (pass_leaders w cpu) }

-- A group has at most 8 events, none where it is wholly software, and each can be counted on some of the counters.
pub record IsGroupBrief (counters : ℕ) (g : GroupBrief Key) : Type 0 where
  pub few : length g.counted ≤ 8
  pub software : g.software ≡ true → g.counted ≡ []
  pub masks : All (IsMask counters) (masks_of g.counted)

-- There are four passes, with at most 256 groups and 256 events, and each event stands there once.
pub record IsBrief (b : ProcessorBrief) : Type 0 where
  pub four : length b.passes ≡ 4
  pub some : 0 < b.counters
  pub most : b.counters ≤ 16
  pub groups : All (IsGroupBrief b.counters) (groups_in b)
  pub few : length (groups_in b) ≤ 256
  pub events : length (events_in (groups_in b)) ≤ 256
  pub once : (e : EventNo) → count_by (λ event. event.0.0 == e.0) (events_in (groups_in b)) ≤ 1
