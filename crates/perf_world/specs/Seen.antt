-- inner
-- A world as its tables show it. This project's own profile.
use Rattle.std.specs.Prelude.{◌≡◌, ◌≢◌, ℕ, true, List, Option, Some, None, slice_index_or, slice_set}
use Rattle.perf_base.specs.declared.numbers.{CpuNo.{CpuNo}, EventNo.{EventNo}, Key.{Key}, RingNo.{RingNo}, TaskNo.{TaskNo}}
use Rattle.perf_base.specs.declared.standing.Context.{Context}
use Rattle.stage_spec.specs.{declared.instance.TaskStatus.{TaskStatus}, Hardware.{Hardware}, Stage.{place_of, unknown_task}}
use Rattle.world_spec.specs.{Kept.{IsKept}, Value.{World, Leaders, is_live, entry_at, instance_at}}
use Rattle.world_tables.specs.{Columns.{Columns}, Places.{Slots, Places}}

abbrev pub seen : Hardware → Columns → List Leaders → Slots → Places → List TaskStatus → List EventNo → List RingNo → ℕ → World
seen hw events contexts families processors tasks used mapped next = record {
  hardware = hw;
  entries = events.entries;
  accounts = events.accounts;
  standings = events.standings;
  contexts = contexts;
  families = families.families;
  folded = families.folded;
  lost = families.lost;
  quiet = record {
    tasks = tasks;
    running = processors.running;
    clocks = events.clocks;
    totals = events.totals;
    seats = processors.seats;
    used = used;
    mapped = mapped;
    next_id = next;
  };
}

-- what always holds of one
abbrev pub IsWorld : World → Type 0
IsWorld w = IsKept w.hardware w

-- Some instance of a context samples, as is_sampling_event of include/linux/perf_event.h has it.
abbrev pub SomeSamples : World → Context → Type 0
SomeSamples w c = (k : Key) × (is_live w k ≡ true) × (place_of (entry_at w k).context ≡ place_of c) × ((instance_at w k).attr.period ≢ 0)

-- the statuses of tasks after one came onto a processor
abbrev pub noted : CpuNo → Option TaskNo → List TaskStatus → List TaskStatus
noted cpu None tasks = tasks
noted cpu (Some task) tasks = slice_set tasks task.0 (record (slice_index_or tasks task.0 unknown_task) { last = Some cpu })
