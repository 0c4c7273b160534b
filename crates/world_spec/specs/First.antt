-- inner
-- The world before the first line. After perf_event_init_cpu and perf_event_init_task of kernel/events/core.c; the
-- tables are this project's own profile.
use Rattle.std.specs.{Prelude.{◌≡◌, List, [], None, length, map, replicate, slice_index}, FinMap.{empty}}
use Rattle.perf_base.specs.declared.numbers.TaskNo.{TaskNo}
use Rattle.stage_spec.specs.{Hardware.{Hardware, IsHardware}, Shares.{no_sums}, Stage.{first_stage}}
use Rattle.counter_match.specs.Seating.{empty_seating}
use Rattle.world_spec.specs.{Value.{World, no_family, no_leaders, no_totals}, StageOf.{stage_of}, Kept.{IsKept}}

-- no event, these tasks, and the processors of a machine, each idle, with no time passed, nothing counted and no event
-- seated on its counters
abbrev pub first_world : Hardware → List TaskNo → World
first_world hw declared = record {
  hardware = hw;
  entries = empty;
  accounts = empty;
  standings = empty;
  contexts = replicate 72 no_leaders;
  families = replicate 256 no_family;
  folded = replicate 256 no_sums;
  lost = replicate 256 0;
  quiet = record {
    tasks = (first_stage (length hw.cpu_pmus) declared).tasks;
    running = replicate (length hw.cpu_pmus) None;
    clocks = replicate (length hw.cpu_pmus) 0;
    totals = replicate (length hw.cpu_pmus) no_totals;
    seats = map (λ pmu. empty_seating (slice_index hw.counters pmu)) hw.cpu_pmus;
    used = [];
    mapped = [];
    next_id = 1;
  };
}

abbrev pub FirstStageLaw : Type 0
FirstStageLaw = (hw : Hardware) (declared : List TaskNo) → stage_of (first_world hw declared) ≡ first_stage (length hw.cpu_pmus) declared

abbrev pub FirstKeptLaw : Type 0
FirstKeptLaw = (hw : Hardware) (declared : List TaskNo) → IsHardware hw → IsKept hw (first_world hw declared)
