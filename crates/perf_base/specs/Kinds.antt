-- believed
-- The software kinds by the names that perf-list(1) has for them.
use Rattle.std.specs.{Prelude.{ℕ, List, [], codes, Option, Some, None, if◌then◌else◌}, Str.{bytes_eq}}
use Rattle.perf_base.specs.declared.attr.Kind.{Kind, TheVariants.{Hard, ContextSwitches, CpuMigrations, TaskClock, Dummy}}

-- the name of a software kind; a hardware kind has the one that its script declares
abbrev pub software_name : Kind → List ℕ
software_name (Hard number) = []
software_name ContextSwitches = codes "context-switches"
software_name CpuMigrations = codes "cpu-migrations"
software_name TaskClock = codes "task-clock"
software_name Dummy = codes "dummy"

-- the software kind of a name
abbrev pub software_kind : List ℕ → Option Kind
software_kind name =
    if bytes_eq name (software_name ContextSwitches) then Some ContextSwitches else
    if bytes_eq name (software_name CpuMigrations) then Some CpuMigrations else
    if bytes_eq name (software_name TaskClock) then Some TaskClock else
    if bytes_eq name (software_name Dummy) then Some Dummy else None
