-- The kinds that the type and the config of an attribute's bytes name, where there are two hardware kinds.
use Rattle.std.{specs.Prelude.{◌≡◌, Some, None}, proofs.Common.{refl}}
use Rattle.perf_base.specs.declared.attr.Kind.TheVariants as kind
use Rattle.attr_bytes.specs.Kinds.{kind_numbered}

pub a_hardware_kind : kind_numbered 2 0 1 ≡ Some (kind.Hard 1)
a_hardware_kind = refl

pub a_raw_kind_that_is_not_declared : kind_numbered 2 4 2 ≡ None
a_raw_kind_that_is_not_declared = refl

pub the_clock_of_a_task : kind_numbered 2 1 1 ≡ Some kind.TaskClock
the_clock_of_a_task = refl

pub an_unknown_software_kind : kind_numbered 2 1 2 ≡ None
an_unknown_software_kind = refl

pub context_switches : kind_numbered 2 1 3 ≡ Some kind.ContextSwitches
context_switches = refl

pub migrations : kind_numbered 2 1 4 ≡ Some kind.CpuMigrations
migrations = refl

pub the_dummy : kind_numbered 2 1 9 ≡ Some kind.Dummy
the_dummy = refl

pub an_unknown_type : kind_numbered 2 2 1 ≡ None
an_unknown_type = refl
