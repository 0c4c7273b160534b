-- believed
-- For what an attribute is refused by itself, whatever is open. The first four conditions are those of
-- perf_event_open(2): in kernel/events/core.c the system call looks at the period, perf_copy_attr at the bits, and
-- perf_event_alloc at the place. This project's own profile are the bits that are known, the fifth condition, and the
-- order.
use Rattle.std.specs.Prelude.{ℕ, ◌^◌, ◌==◌, Bool, not, ◌&&◌, bit_and, List, [], ◌∷◌, Option}
use Rattle.perf_base.specs.declared.{attr.Attr.{Attr}, reasons.Reason.{Reason}}
use Rattle.perf_base.specs.declared.reasons.Reason.TheVariants as reason
use Rattle.stage_spec.specs.{Hardware.{is_software}, Places.{is_all_tasks, is_any_cpu}, Refusals.{first_of}}

-- the bits of PERF_SAMPLE_ that are known: IP, TID, TIME, ID, CPU, PERIOD, STREAM_ID and IDENTIFIER
abbrev pub sample_bits : ℕ
sample_bits = 0x103c7

-- the bits of PERF_FORMAT_ that are known: both times, ID, GROUP and LOST
abbrev pub format_bits : ℕ
format_bits = 0x1f

-- whether some bit of a number is not among these
abbrev pub has_other_bits : ℕ → ℕ → Bool
has_other_bits known bits = not (bit_and bits known == bits)

-- the period has its highest bit set
abbrev pub has_high_period : Attr → Bool
has_high_period a = not (bit_and a.period (2 ^ 63) == 0)

-- it asks for a field of a sample that is unknown
abbrev pub has_unknown_sample : Attr → Bool
has_unknown_sample a = has_other_bits sample_bits a.sample

-- it asks for a word of a read that is unknown
abbrev pub has_unknown_format : Attr → Bool
has_unknown_format a = has_other_bits format_bits a.format

-- it names neither a task nor a processor
abbrev pub has_no_place : Attr → Bool
has_no_place a = is_all_tasks a.task && is_any_cpu a.cpu

-- a kind that is counted in software does not sample
abbrev pub has_soft_period : Attr → Bool
has_soft_period a = is_software a.kind && not (a.period == 0)

-- the five reasons in their order, each with whether it holds
abbrev pub faults_of : Attr → List (Reason × Bool)
faults_of a = (reason.BadPeriod, has_high_period a) ∷ (reason.BadSampleBits, has_unknown_sample a) ∷ (reason.BadFormatBits, has_unknown_format a)
    ∷ (reason.NoPlace, has_no_place a) ∷ (reason.SoftPeriod, has_soft_period a) ∷ []

-- the first of them that holds, if one does
abbrev pub first_fault : Attr → Option Reason
first_fault a = first_of (faults_of a)
