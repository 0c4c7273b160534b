-- believed
-- Which kind of event an attribute names.
use Rattle.std.specs.Prelude.{ℕ, ◌==◌, ◌||◌, ◌&&◌, nat_lt, Option, Some, None, if◌then◌else◌}
use Rattle.perf_base.specs.declared.attr.Kind.{Kind, TheVariants.{Hard, ContextSwitches, CpuMigrations, TaskClock, Dummy}}

-- the software kind of a config, by the numbers of PERF_COUNT_SW_ (perf_event_open(2))
abbrev pub software_numbered : ℕ → Option Kind
software_numbered config =
    if config == 1 then Some TaskClock else
    if config == 3 then Some ContextSwitches else
    if config == 4 then Some CpuMigrations else
    if config == 9 then Some Dummy else None

-- The kind that a type and a config name, where there are so many hardware kinds: SOFTWARE, type 1, a software kind,
-- HARDWARE and RAW, types 0 and 4, a hardware kind by its number, as this project's own profile has it.
abbrev pub kind_numbered : (kinds class config : ℕ) → Option Kind
kind_numbered kinds class config =
    if class == 1 then software_numbered config else
    if (class == 0 || class == 4) && nat_lt config kinds then Some (Hard config) else None
