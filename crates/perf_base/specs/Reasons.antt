-- believed
-- The numbers and printed words of the reasons, after perf_event_open(2)'s errors; where that has none,
-- this project's own profile.
use Rattle.std.specs.Prelude.{ℕ, List, codes}
use Rattle.perf_base.specs.declared.reasons.{Reason.{Reason}, SReason.{SReason}}
use Rattle.perf_base.specs.declared.reasons.Reason.TheVariants as reason
use Rattle.perf_base.specs.declared.reasons.SReason.TheVariants as fault

-- the number of a reason
abbrev pub number_of : Reason → ℕ
number_of reason.BadPeriod = 1
number_of reason.BadSampleBits = 2
number_of reason.BadFormatBits = 3
number_of reason.NoPlace = 4
number_of reason.SoftPeriod = 5
number_of reason.Exists = 6
number_of reason.NoTask = 7
number_of reason.NoEvent = 8
number_of reason.NotLeader = 9
number_of reason.OtherContext = 10
number_of reason.SiblingFlags = 11
number_of reason.Inherit = 12
number_of reason.GroupFull = 13
number_of (reason.NoAssignment set) = 14
number_of reason.Busy = 15
number_of reason.Idle = 16
number_of reason.CopiesFull = 17
number_of reason.NotSampling = 18
number_of reason.ZeroPeriod = 19
number_of reason.NoSpace = 20
number_of reason.SameEvent = 21
number_of reason.OtherCpu = 22
number_of reason.HasRing = 23
number_of reason.NoRing = 24
number_of reason.OtherPmu = 25
number_of reason.NoDevice = 26

-- the word that is printed for a reason
abbrev pub printed_of : Reason → List ℕ
printed_of reason.BadPeriod = codes "EATTRPERIOD"
printed_of reason.BadSampleBits = codes "ESAMPLEBITS"
printed_of reason.BadFormatBits = codes "EFORMATBITS"
printed_of reason.NoPlace = codes "ENOPLACE"
printed_of reason.SoftPeriod = codes "ESOFTPERIOD"
printed_of reason.Exists = codes "EEXIST"
printed_of reason.NoTask = codes "ESRCH"
printed_of reason.NoEvent = codes "EBADF"
printed_of reason.NotLeader = codes "ELEADER"
printed_of reason.OtherContext = codes "ECONTEXT"
printed_of reason.SiblingFlags = codes "EFLAGS"
printed_of reason.Inherit = codes "EINHERIT"
printed_of reason.GroupFull = codes "EGROUP"
printed_of (reason.NoAssignment set) = codes "EASSIGN"
printed_of reason.Busy = codes "EBUSY"
printed_of reason.Idle = codes "EIDLE"
printed_of reason.CopiesFull = codes "EAGAIN"
printed_of reason.NotSampling = codes "ENOSAMPLE"
printed_of reason.ZeroPeriod = codes "EPERIOD"
printed_of reason.NoSpace = codes "ENOSPC"
printed_of reason.SameEvent = codes "ESELF"
printed_of reason.OtherCpu = codes "ECPU"
printed_of reason.HasRing = codes "EMAPPED"
printed_of reason.NoRing = codes "ENORING"
printed_of reason.OtherPmu = codes "EPMU"
printed_of reason.NoDevice = codes "EDEVICE"

-- the word that is printed for the reason why a text is no script
abbrev pub script_word : SReason → List ℕ
script_word fault.Ascii = codes "ASCII"
script_word fault.Form = codes "FORM"
script_word fault.Place = codes "PLACE"
script_word fault.Range = codes "RANGE"
script_word fault.Attr = codes "ATTR"
script_word fault.Name = codes "NAME"
script_word fault.Limit = codes "LIMIT"
script_word fault.Weight = codes "WEIGHT"
script_word fault.Order = codes "ORDER"
script_word fault.End = codes "END"
