-- believed
-- Why a line is refused: what each reason asks of a line, in a text whose lines before it are of these forms.
-- This project's own profile.
use Rattle.std.specs.Prelude.{◌≡◌, ◌≢◌, ℕ, ◌<◌, ◌≤◌, List, [], length, All, AllPairs, Any, IfSome, IsSome, None}
use Rattle.perf_base.specs.declared.numbers.CpuNo.{CpuNo}
use Rattle.perf_base.specs.declared.reasons.SReason.{SReason}
use Rattle.perf_base.specs.declared.reasons.SReason.TheVariants as reason
use Rattle.perf_base.specs.Scripts.{IsPmuLine, AreApart, IsMaskOf, IsRingLine, IsFreeName, HasRing, IsAct, line_count}
pub use Rattle.perf_base.specs.Scripts.{IsWide}
use Rattle.perf_base.specs.Cpus.{HasCpu}
use Rattle.perf_base.specs.Weight.{weight}
use Rattle.attr_bytes.specs.Faults.{fault_of}
use Rattle.script_spec.specs.Acts.{IsActInRange}
use Rattle.script_spec.specs.Lines.{words_of}
use Rattle.script_spec.specs.Forms as form
use Rattle.script_spec.specs.Forms.{Version, Working, CpuForm, Opening, ToolForm, Form, IsOfForm}
use Rattle.script_spec.specs.Meaning.{cpus_in, pmus_in, kinds_in, tasks_in, rings_in, processors_in, tools_in, readers_in, kind_named, kind_of_bytes, last_of, script_of}

-- ---- END and ASCII

abbrev pub IsNoEnd : Form → Type 0
IsNoEnd form.End = ⊥
IsNoEnd other = Unit {0}

abbrev pub IsPrintable : ℕ → Type 0
IsPrintable b = (32 ≤ b) × (b ≤ 126)

-- ---- PLACE

-- the sections of a text, in their order
abbrev pub section : Form → ℕ
section (form.Perf version) = 0
section (form.Machine cpus counters) = 1
section (form.MachineOfPmus cpus) = 1
section (form.Pmu number counters cpus) = 2
section (form.Kind name mask) = 3
section (form.KindOfPmu name pmu mask) = 3
section (form.Task number) = 4
section (form.Ring number bytes) = 5
section (form.Processor number) = 6
section (form.OnProcessor line) = 6
section (form.Tool number) = 7
section (form.OnTool line) = 7
section (form.Reader ring tries batch) = 8
section (form.Order acts) = 9
section form.End = 10

-- it stands behind the machine, and no form of a later section stands before it
pub record IsInOrder (before : List Form) (f : Form) : Type 0 where
  pub behind_machine : 2 ≤ length before
  pub sections : All (λ g. section g ≤ section f) before

-- each processor is in the mask of a declared PMU
abbrev pub AreCovered : List Form → Type 0
AreCovered before = (cpu : CpuNo) → cpu.0 < cpus_in before → Any (λ p. HasCpu p.cpus cpu) (pmus_in before)

-- what stands under a header has one before it
abbrev pub IsUnder : List Form → Form → Type 0
IsUnder before (form.OnProcessor line) = IsSome (last_of (processors_in before))
IsUnder before (form.OnTool line) = IsSome (last_of (tools_in before))
IsUnder before other = Unit {0}

pub record IsBehindPmus (before : List Form) (f : Form) : Type 0 where
  pub in_order : IsInOrder before f
  pub covered : AreCovered before
  pub under : IsUnder before f

-- `perf` is line 1 and the machine line 2; the PMUs come next, and nothing else before they have all
-- processors
abbrev pub IsPlaced : List Form → Form → Type 0
IsPlaced before (form.Perf version) = before ≡ []
IsPlaced before (form.Machine cpus counters) = length before ≡ 1
IsPlaced before (form.MachineOfPmus cpus) = length before ≡ 1
IsPlaced before (form.Pmu number counters cpus) = IsInOrder before (form.Pmu number counters cpus)
IsPlaced before other = IsBehindPmus before other

-- ---- RANGE

abbrev pub IsBetween : ℕ → ℕ → ℕ → Type 0
IsBetween low high n = (low ≤ n) × (n ≤ high)

abbrev pub IsTaskNumber : ℕ → Type 0
IsTaskNumber n = n < 64

abbrev pub IsSlotNumber : ℕ → Type 0
IsSlotNumber n = n < 256

-- lengths and occurrences are at most a thousand million
abbrev pub IsAmount : ℕ → Type 0
IsAmount n = n ≤ 1000000000

-- numbered from 0 on, at most 4, and each processor in one at most
pub record IsNextPmu (before : List Form) (number counters cpus : ℕ) : Type 0 where
  pub next : number ≡ length (pmus_in before)
  pub few : number ≤ 3
  pub line : IsPmuLine (cpus_in before) (record { counters = counters; cpus = record { 0 = cpus } })
  pub apart : All (λ p. AreApart p (record { counters = counters; cpus = record { 0 = cpus } })) (pmus_in before)

abbrev pub IsCpuFormInRange : CpuForm → Type 0
IsCpuFormInRange (form.Switch task) = IfSome task IsTaskNumber
IsCpuFormInRange (form.Work w) = IsAmount w.length × All (λ h. IsAmount h.times) w.hits
IsCpuFormInRange form.Tick = Unit {0}
IsCpuFormInRange (form.Fork task) = IsTaskNumber task
IsCpuFormInRange form.Exit = Unit {0}

-- slots and leaders, tasks, and the machine's processors
pub record IsOpeningInRange (cpus : ℕ) (p : Opening) : Type 0 where
  pub slot : IsSlotNumber p.slot
  pub task : IfSome p.task IsTaskNumber
  pub cpu : IfSome p.cpu (λ n. n < cpus)
  pub leader : IfSome p.leader IsSlotNumber

abbrev pub IsToolFormInRange : ℕ → ToolForm → Type 0
IsToolFormInRange cpus (form.OpenKind p name a) = IsOpeningInRange cpus p × IfSome a.period IsWide
IsToolFormInRange cpus (form.OpenAttr p bytes) = IsOpeningInRange cpus p
IsToolFormInRange cpus (form.Enable slot group) = IsSlotNumber slot
IsToolFormInRange cpus (form.Disable slot group) = IsSlotNumber slot
IsToolFormInRange cpus (form.Reset slot group) = IsSlotNumber slot
IsToolFormInRange cpus (form.Period slot period) = IsSlotNumber slot × IsWide period
IsToolFormInRange cpus (form.Read slot size) = IsSlotNumber slot × IfSome size IsWide
IsToolFormInRange cpus (form.Map slot ring) = IsSlotNumber slot × IsWide ring
IsToolFormInRange cpus (form.Output slot target) = IsSlotNumber slot × IsSlotNumber target
IsToolFormInRange cpus (form.Close slot) = IsSlotNumber slot
IsToolFormInRange cpus (form.Why slot) = IsSlotNumber slot
IsToolFormInRange cpus (form.Seats cpu) = cpu < cpus

-- numbers and masks in their ranges, and above every earlier number of their form where they must rise
abbrev pub IsInRange : List Form → Form → Type 0
IsInRange before (form.Perf version) = Unit {0}
IsInRange before (form.Machine cpus counters) = IsBetween 1 8 cpus × IsBetween 1 16 counters
IsInRange before (form.MachineOfPmus cpus) = IsBetween 1 8 cpus
IsInRange before (form.Pmu number counters cpus) = IsNextPmu before number counters cpus
IsInRange before (form.Kind name mask) = IsMaskOf (pmus_in before) 0 mask
IsInRange before (form.KindOfPmu name pmu mask) = IsMaskOf (pmus_in before) pmu mask
IsInRange before (form.Task number) = IsTaskNumber number × All (λ t. t.0 < number) (tasks_in before)
IsInRange before (form.Ring number bytes) = IsRingLine (record { 0 = number }, bytes) × All (λ r. r.0.0 < number) (rings_in before)
IsInRange before (form.Processor number) = (number < cpus_in before) × All (λ n. n < number) (processors_in before)
IsInRange before (form.OnProcessor line) = IsCpuFormInRange line
IsInRange before (form.Tool number) = (number < 4) × All (λ n. n < number) (tools_in before)
IsInRange before (form.OnTool line) = IsToolFormInRange (cpus_in before) line
IsInRange before (form.Reader ring tries batch) = IsWide ring × IsBetween 1 65536 tries × IsBetween 1 1024 batch × All (λ r. r.ring.0 < ring) (readers_in before)
IsInRange before (form.Order acts) = All IsActInRange acts
IsInRange before form.End = Unit {0}

-- ---- ATTR

-- bytes of an open are those of an attribute
abbrev pub HasAttr : Form → Type 0
HasAttr (form.OnTool (form.OpenAttr p bytes)) = fault_of bytes ≡ None
HasAttr other = Unit {0}

-- ---- NAME

-- a kind's name is new and free
pub record IsNewName (before : List Form) (name : List ℕ) : Type 0 where
  pub free : IsFreeName name
  pub once : All (λ k. k.name ≢ name) (kinds_in before)

-- the kinds of a work line are declared, and each stands there once
pub record AreKinds (before : List Form) (w : Working) : Type 0 where
  pub declared : All (λ h. Any (λ k. k.name ≡ h.name) (kinds_in before)) w.hits
  pub once : AllPairs (λ g h. g.name ≢ h.name) w.hits

abbrev pub IsCpuFormNamed : List Form → CpuForm → Type 0
IsCpuFormNamed before (form.Work w) = AreKinds before w
IsCpuFormNamed before other = Unit {0}

abbrev pub IsToolFormNamed : List Form → ToolForm → Type 0
IsToolFormNamed before (form.OpenKind p name a) = IsSome (kind_named (kinds_in before) name)
IsToolFormNamed before (form.OpenAttr p bytes) = IsSome (kind_of_bytes (kinds_in before) bytes)
IsToolFormNamed before (form.Map slot ring) = HasRing (rings_in before) (record { 0 = ring })
IsToolFormNamed before other = Unit {0}

-- names are declared, and each kind's name is new; an act is of a processor or tool with lines, or of a
-- declared ring
abbrev pub IsNamed : List Form → Form → Type 0
IsNamed before (form.Kind name mask) = IsNewName before name
IsNamed before (form.KindOfPmu name pmu mask) = IsNewName before name
IsNamed before (form.OnProcessor line) = IsCpuFormNamed before line
IsNamed before (form.OnTool line) = IsToolFormNamed before line
IsNamed before (form.Reader ring tries batch) = HasRing (rings_in before) (record { 0 = ring })
IsNamed before (form.Order acts) = All (IsAct (script_of before)) acts
IsNamed before other = Unit {0}

-- ---- LIMIT and WEIGHT

-- at most 16 kinds, and at most 16,384 lines under processors and tools
abbrev pub IsWithinLimits : List Form → Form → Type 0
IsWithinLimits before (form.Kind name mask) = length (kinds_in before) < 16
IsWithinLimits before (form.KindOfPmu name pmu mask) = length (kinds_in before) < 16
IsWithinLimits before (form.OnProcessor line) = line_count (script_of before) < 16384
IsWithinLimits before (form.OnTool line) = line_count (script_of before) < 16384
IsWithinLimits before other = Unit {0}

-- at the end the script weighs at most 65,536
abbrev pub IsWithinWeight : List Form → Form → Type 0
IsWithinWeight before form.End = weight (script_of before) ≤ 65536
IsWithinWeight before other = Unit {0}

-- ---- the reasons in their order

-- whatever form the line is of
abbrev pub Each : Version → List ℕ → (Form → Type 0) → Type 0
Each version line P = (f : Form) → IsOfForm version (words_of line) f → P f

-- What a reason asks of a line. A line with a byte outside the printable ones of ASCII, or of no form, is
-- refused for that alone. ORDER is no reason of a line here: the order is looked at once the text is read.
abbrev pub Keeps : Version → List Form → List ℕ → SReason → Type 0
Keeps version before line reason.End = All IsNoEnd before
Keeps version before line reason.Ascii = All IsPrintable line
Keeps version before line reason.Form = (f : Form) × IsOfForm version (words_of line) f
Keeps version before line reason.Place = Each version line (IsPlaced before)
Keeps version before line reason.Range = Each version line (IsInRange before)
Keeps version before line reason.Attr = Each version line HasAttr
Keeps version before line reason.Name = Each version line (IsNamed before)
Keeps version before line reason.Limit = Each version line (IsWithinLimits before)
Keeps version before line reason.Weight = Each version line (IsWithinWeight before)
Keeps version before line reason.Order = Unit {0}

-- the order in which the reasons are looked for in a line
abbrev pub rank : SReason → ℕ
rank reason.End = 0
rank reason.Ascii = 1
rank reason.Form = 2
rank reason.Place = 3
rank reason.Range = 4
rank reason.Attr = 5
rank reason.Name = 6
rank reason.Limit = 7
rank reason.Weight = 8
rank reason.Order = 9

-- the line is refused for this reason: it is the first that is not kept
pub record IsFaulty (version : Version) (before : List Form) (line : List ℕ) (r : SReason) : Type 0 where
  pub earlier : (q : SReason) → rank q < rank r → Keeps version before line q
  pub broken : Keeps version before line r → ⊥

-- the line is of this form, and nothing is asked of it that it does not keep
pub record IsSound (version : Version) (before : List Form) (line : List ℕ) (f : Form) : Type 0 where
  pub is : IsOfForm version (words_of line) f
  pub keeps : (q : SReason) → Keeps version before line q
