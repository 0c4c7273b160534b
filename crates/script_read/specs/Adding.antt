-- inner
-- What a form adds to the script so far, and to what the state keeps beside it. This project's own profile.
use Rattle.std.specs.Prelude.{◌≡◌, ℕ, ◌<◌, bit_or, Option, Some, IfSome}
use Rattle.perf_base.specs.declared.reasons.SReason.{SReason}
use Rattle.perf_base.specs.declared.reasons.SReason.TheVariants as reason
use Rattle.script_spec.specs.{Forms.{Form}, Saying.{said_by}, Faults.{HasAttr}}
use Rattle.script_spec.specs.Forms as form
use Rattle.script_read.specs.{declared.state.State.{State}, Fault.{AsksThese, IsFirstBroken}, State.{cpu_number, tool_number, union_of}}
use Rattle.script_read.specs.{Place.{IsPlacedOf, HasHeader}, Numbers.{IsInRangeOf}, Names.{IsNamedOf, IsWithinLimitsOf, IsLightOf}}

-- what each reason asks of a form there, and the first reason for which it is refused
abbrev pub Asks : State → Form → SReason → Type 0
Asks s f = AsksThese (IsPlacedOf s f) (IsInRangeOf s f) (HasAttr f) (IsNamedOf s f) (IsWithinLimitsOf s f) (IsLightOf s f)

abbrev pub IsFirst : State → Form → SReason → Type 0
IsFirst s f = IsFirstBroken (Asks s f)

-- the headers that came last are of the machine, and the named processors are those of the PMUs
pub record IsSoundState (s : State) : Type 0 where
  pub cpu : IfSome (cpu_number s.cpu) (λ n. n < s.script.cpus)
  pub tool : IfSome (tool_number s.tool) (λ n. n < 4)
  pub named : s.named.0 ≡ union_of s.script.pmus

-- the header that comes last, and the processors that are named
abbrev pub next_cpu : Option ℕ → Form → Option ℕ
next_cpu cpu (form.Processor number) = Some number
next_cpu cpu other = cpu

abbrev pub next_tool : Option ℕ → Form → Option ℕ
next_tool tool (form.Tool number) = Some number
next_tool tool other = tool

abbrev pub next_named : ℕ → Form → ℕ
next_named named (form.Pmu number counters cpus) = bit_or named cpus
next_named named other = named

pub record IsAdded (old new : State) (f : Form) : Type 0 where
  pub script : new.script ≡ said_by old.script (cpu_number old.cpu) (tool_number old.tool) f
  pub cpu : cpu_number new.cpu ≡ next_cpu (cpu_number old.cpu) f
  pub tool : tool_number new.tool ≡ next_tool (tool_number old.tool) f
  pub named : new.named.0 ≡ next_named old.named.0 f

-- the form keeps all that is asked of it but of its section, and the state has what it adds
abbrev pub IsTakenBy : State → State → Form → Type 0
IsTakenBy old new f = HasHeader old f × IsInRangeOf old f × HasAttr f × IsNamedOf old f × IsWithinLimitsOf old f × IsLightOf old f × IsAdded old new f

-- the first of these that is not kept
abbrev pub Refuses : State → Form → SReason → Type 0
Refuses s f reason.Place = HasHeader s f → ⊥
Refuses s f reason.Range = HasHeader s f × (IsInRangeOf s f → ⊥)
Refuses s f reason.Attr = HasHeader s f × IsInRangeOf s f × (HasAttr f → ⊥)
Refuses s f reason.Name = HasHeader s f × IsInRangeOf s f × HasAttr f × (IsNamedOf s f → ⊥)
Refuses s f reason.Limit = HasHeader s f × IsInRangeOf s f × HasAttr f × IsNamedOf s f × (IsWithinLimitsOf s f → ⊥)
Refuses s f reason.Weight = HasHeader s f × IsInRangeOf s f × HasAttr f × IsNamedOf s f × IsWithinLimitsOf s f × (IsLightOf s f → ⊥)
Refuses s f other = ⊥
