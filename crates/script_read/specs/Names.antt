-- believed
-- What is asked of names, of the script so far. This project's own profile.
use Rattle.std.specs.Prelude.{◌≡◌, ◌≢◌, ℕ, ◌<◌, ◌≤◌, List, length, All, AllPairs, Any, IsSome, None}
use Rattle.perf_base.specs.{declared.lines.KindLine.{KindLine}, Scripts.{Scripted, IsFreeName, HasRing, IsAct, line_count}, Weight.{weight}}
use Rattle.attr_bytes.specs.Faults.{fault_of}
use Rattle.script_spec.specs.{Forms.{Hit, CpuForm, ToolForm, Form}, Meaning.{kind_named, kind_of_bytes}}
use Rattle.script_spec.specs.Forms as form
use Rattle.script_read.specs.declared.state.State.{State}

abbrev pub IsNewIn : List KindLine → List ℕ → Type 0
IsNewIn kinds name = IsFreeName name × All (λ k. k.name ≢ name) kinds

abbrev pub AreKindsIn : List KindLine → List Hit → Type 0
AreKindsIn kinds hits = All (λ h. Any (λ k. k.name ≡ h.name) kinds) hits × AllPairs (λ g h. g.name ≢ h.name) hits

abbrev pub IsCpuFormNamedOf : List KindLine → CpuForm → Type 0
IsCpuFormNamedOf kinds (form.Work w) = AreKindsIn kinds w.hits
IsCpuFormNamedOf kinds other = Unit {0}

abbrev pub HasAttrIn : ToolForm → Type 0
HasAttrIn (form.OpenAttr p bytes) = fault_of bytes ≡ None
HasAttrIn other = Unit {0}

abbrev pub IsToolFormNamedOf : Scripted → ToolForm → Type 0
IsToolFormNamedOf s (form.OpenKind p name a) = IsSome (kind_named s.kinds name)
IsToolFormNamedOf s (form.OpenAttr p bytes) = IsSome (kind_of_bytes s.kinds bytes)
IsToolFormNamedOf s (form.Map slot ring) = HasRing s.rings (record { 0 = ring })
IsToolFormNamedOf s other = Unit {0}

abbrev pub IsNamedOf : State → Form → Type 0
IsNamedOf s (form.Kind name mask) = IsNewIn s.script.kinds name
IsNamedOf s (form.KindOfPmu name pmu mask) = IsNewIn s.script.kinds name
IsNamedOf s (form.OnProcessor line) = IsCpuFormNamedOf s.script.kinds line
IsNamedOf s (form.OnTool line) = IsToolFormNamedOf s.script line
IsNamedOf s (form.Reader ring tries batch) = HasRing s.script.rings (record { 0 = ring })
IsNamedOf s (form.Order acts) = All (IsAct s.script) acts
IsNamedOf s other = Unit {0}

-- ---- limits

abbrev pub IsWithinLimitsOf : State → Form → Type 0
IsWithinLimitsOf s (form.Kind name mask) = length s.script.kinds < 16
IsWithinLimitsOf s (form.KindOfPmu name pmu mask) = length s.script.kinds < 16
IsWithinLimitsOf s (form.OnProcessor line) = line_count s.script < 16384
IsWithinLimitsOf s (form.OnTool line) = line_count s.script < 16384
IsWithinLimitsOf s other = Unit {0}

abbrev pub IsLightOf : State → Form → Type 0
IsLightOf s form.End = weight s.script ≤ 65536
IsLightOf s other = Unit {0}
