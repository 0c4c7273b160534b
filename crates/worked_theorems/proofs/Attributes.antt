-- Which fault of an attribute is told, worked out by hand.
use Rattle.std.{specs.Prelude.{◌≡◌, ℕ, ◌-◌, Option, Some, None}, proofs.Common.{refl}}
use Rattle.perf_base.specs.declared.{attr.{Kind.{Kind}, TaskSel.{TaskSel}}, reasons.Reason.{Reason}}
use Rattle.perf_base.specs.declared.attr.Kind.TheVariants as kind
use Rattle.perf_base.specs.declared.attr.TaskSel.TheVariants as tasks
use Rattle.perf_base.specs.declared.attr.CpuSel.TheVariants as cpus
use Rattle.perf_base.specs.declared.reasons.Reason.TheVariants as reason
use Rattle.stage_spec.specs.Checks.{first_fault}
use Rattle.worked_theorems.proofs.answers.Words.{cpu, task, attr}

-- the fault of an attribute on any processor, with no flag
abbrev fault : Kind → TaskSel → (period sample format : ℕ) → Option Reason
fault k t period sample format = first_fault (attr k t cpus.Any period sample format 0)

-- a task
abbrev third : TaskSel
third = tasks.One (task 3)

-- the least period with its highest bit
abbrev high : ℕ
high = 9223372036854775808

-- These have none.
pub all_known_bits_are_lawful : fault (kind.Hard 0) third 0 0x103c7 0x1f ≡ None
all_known_bits_are_lawful = refl

pub the_greatest_period_is_lawful : fault (kind.Hard 0) third (high - 1) 1 0 ≡ None
the_greatest_period_is_lawful = refl

pub a_software_kind_is_lawful : fault kind.Dummy third 0 0 0 ≡ None
a_software_kind_is_lawful = refl

pub all_tasks_on_one_processor_are_lawful : first_fault (attr (kind.Hard 0) tasks.All (cpus.One (cpu 0)) 0 0 0 0) ≡ None
all_tasks_on_one_processor_are_lawful = refl

-- The period is looked at first.
pub a_high_period : fault (kind.Hard 0) third high 0 0 ≡ Some reason.BadPeriod
a_high_period = refl

pub a_high_period_among_all_faults : fault kind.Dummy tasks.All high 8 32 ≡ Some reason.BadPeriod
a_high_period_among_all_faults = refl

-- Then come the bits of the sample, and those of the format.
pub an_unknown_sample_bit : fault (kind.Hard 0) third 0 8 0 ≡ Some reason.BadSampleBits
an_unknown_sample_bit = refl

pub an_unknown_sample_bit_among_later_faults : fault kind.Dummy tasks.All 5 0x203c7 32 ≡ Some reason.BadSampleBits
an_unknown_sample_bit_among_later_faults = refl

pub an_unknown_format_bit : fault (kind.Hard 0) third 0 1 32 ≡ Some reason.BadFormatBits
an_unknown_format_bit = refl

-- Then comes the place, and last the period of a software kind.
pub all_tasks_on_any_processor : fault kind.Dummy tasks.All 5 0 0 ≡ Some reason.NoPlace
all_tasks_on_any_processor = refl

pub a_software_kind_with_a_period : fault kind.TaskClock third 5 0 0 ≡ Some reason.SoftPeriod
a_software_kind_with_a_period = refl
