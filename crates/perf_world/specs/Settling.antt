-- inner
-- How the accounts of instances are turned to the way that their world has for them. After event_sched_in and
-- event_sched_out of kernel/events/core.c; that an account is turned where its instance changes is this project's own
-- profile.
use Rattle.std.specs.{Prelude.{◌≡◌, ◌≤◌, true, false, List, [], ◌++◌, flat_map, Option, Some, None, slice_index_or}, FinMap.{contains_key}}
use Rattle.perf_base.specs.declared.numbers.{CpuNo.{CpuNo}, EventNo.{EventNo}, Key.{Key}, TaskNo.{TaskNo}}
use Rattle.perf_base.specs.declared.standing.Context.TheVariants as context
use Rattle.stage_spec.specs.{Opening.{is_used}, Shares.{no_sums}, Stage.{place_of}}
use Rattle.world_spec.specs.{StageOf.{stage_of}, Value.{World, Leaders, no_leaders, times}, Ways.{IsTurned}}
use Rattle.world_tables.specs.{Columns.{Columns, is_there, entry_in, way_in}, Places.{Places, no_slots}}
use Rattle.perf_world.specs.Seen.{seen, IsWorld}

-- a world of these events on these processors; what else it has, no way goes by
abbrev pub bare : Columns → Places → World
bare t p = seen (record { cpu_pmus = []; counters = []; kind_pmus = []; masks = [] }) t [] no_slots p [] [] [] 0

-- no task is on two processors
abbrev pub RunOnce : List (Option TaskNo) → Type 0
RunOnce running = (cpu other : CpuNo) (task : TaskNo) → slice_index_or running cpu.0 None ≡ Some task → slice_index_or running other.0 None ≡ Some task → cpu.0 ≡ other.0

-- some keys name events, and so do their leaders
abbrev pub AreLed : Columns → List Key → Type 0
AreLed t keys = (k : Key) → 1 ≤ times k keys → (is_there t k ≡ true) × (is_there t (entry_in t k).leader ≡ true)

-- The accounts at some keys were turned, and nothing else changed.
pub record HasSettled (keys : List Key) (p : Places) (t after : Columns) : Type 0 where
  pub same : after ≡ record t { ways = after.ways }
  pub turned : (k : Key) → 1 ≤ times k keys → IsTurned (bare t p) (way_in after k) k
  pub others : (k : Key) → times k keys ≡ 0 → way_in after k ≡ way_in t k

-- the members of a group, and of the groups of a list; the leaders of a task's groups, and their members
abbrev pub group_keys : Columns → Key → List Key
group_keys t leader = (entry_in t leader).members

abbrev pub list_keys : Columns → List Key → List Key
list_keys t leaders = flat_map (group_keys t) leaders

abbrev pub task_leaders : List Leaders → Option TaskNo → List Key
task_leaders contexts None = []
task_leaders contexts (Some task) = (slice_index_or contexts (place_of (context.Task task)) no_leaders).pinned
    ++ (slice_index_or contexts (place_of (context.Task task)) no_leaders).flexible

abbrev pub task_keys : Columns → List Leaders → Option TaskNo → List Key
task_keys t contexts None = []
task_keys t contexts (Some task) = list_keys t (slice_index_or contexts (place_of (context.Task task)) no_leaders).pinned
    ++ list_keys t (slice_index_or contexts (place_of (context.Task task)) no_leaders).flexible

-- the way of each live account is as the world has it
abbrev pub AreTurned : Columns → World → Type 0
AreTurned t w = (k : Key) → contains_key w.entries k.0 ≡ true → IsTurned w (way_in t k) k

-- Of a slot that was not used no copy was folded and no record was lost.
abbrev pub AreClear : World → Type 0
AreClear w = (e : EventNo) → is_used (stage_of w) e ≡ false → (slice_index_or w.folded e.0 no_sums ≡ no_sums) × (slice_index_or w.lost e.0 0 ≡ 0)

-- What a world's tables keep: what always holds of the world, the ways of its accounts, that unused slots are clear.
pub record IsStored (t : Columns) (w : World) : Type 0 where
  pub kept : IsWorld w
  pub turned : AreTurned t w
  pub clear : AreClear w
