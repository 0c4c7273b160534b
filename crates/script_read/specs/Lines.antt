-- inner
-- What the making of a line gives, and for which reasons it is refused. This project's own profile.
use Rattle.std.specs.{Prelude.{◌≡◌, ◌≢◌, ◌-◌, ◌++◌, ◌||◌, ℕ, Bool, false, List, [], ◌∷◌, All, Any, length, map, replicate, Some}, Str.{bytes_eq}}
use Rattle.perf_base.specs.declared.{lines.{CpuLine.{CpuLine}, KindLine.{KindLine}, ToolLine.{ToolLine}}, reasons.SReason.{SReason}}
use Rattle.perf_base.specs.Scripts.{Scripted}
use Rattle.perf_base.specs.declared.reasons.SReason.TheVariants as reason
use Rattle.script_spec.specs.{Forms.{Hit, CpuForm, ToolForm}, Faults.{IsAmount, IsCpuFormInRange, IsToolFormInRange}, Meaning.{times_of, cpu_line_of, tool_line_of}}
use Rattle.script_read.specs.Names.{AreKindsIn, IsCpuFormNamedOf, HasAttrIn, IsToolFormNamedOf}

-- the form keeps what is asked of it, and the line is what it says
abbrev pub MakesCpuLine : List KindLine → CpuForm → CpuLine → Type 0
MakesCpuLine kinds f line = IsCpuFormInRange f × IsCpuFormNamedOf kinds f × (line ≡ cpu_line_of kinds f)

abbrev pub MakesToolLine : Scripted → ToolForm → ToolLine → Type 0
MakesToolLine s f line = IsToolFormInRange s.cpus f × HasAttrIn f × IsToolFormNamedOf s f × (Some line ≡ tool_line_of s.kinds f)

-- the first of three that is not kept: the ranges, the bytes of an attribute, the names
abbrev pub Fails : (range attr name : Type 0) → SReason → Type 0
Fails range attr name reason.Range = range → ⊥
Fails range attr name reason.Attr = range × (attr → ⊥)
Fails range attr name reason.Name = range × attr × (name → ⊥)
Fails range attr name other = ⊥

abbrev pub RefusesCpuForm : List KindLine → CpuForm → SReason → Type 0
RefusesCpuForm kinds f r = Fails (IsCpuFormInRange f) (Unit {0}) (IsCpuFormNamedOf kinds f) r

abbrev pub RefusesToolForm : Scripted → ToolForm → SReason → Type 0
RefusesToolForm s f r = Fails (IsToolFormInRange s.cpus f) (HasAttrIn f) (IsToolFormNamedOf s f) r

-- ---- occurrences, one after the other

-- the kind is declared, and does not stand among these
abbrev pub IsNamedOnce : List KindLine → List Hit → List ℕ → Type 0
IsNamedOnce kinds hits name = Any (λ k. k.name ≡ name) kinds × All (λ h. h.name ≢ name) hits

abbrev pub stands_in : List Hit → List ℕ → Bool
stands_in [] name = false
stands_in (h ∷ hits) name = bytes_eq h.name name || stands_in hits name

-- Where the kinds of these are declared and each stands there once: how often each kind occurs, and whether it stands
-- there.
pub record AreCounted (kinds : List KindLine) (hits : List Hit) (times : List ℕ) (named : List Bool) : Type 0 where
  pub once : AreKindsIn kinds hits
  pub counts : times ≡ map (λ k. times_of hits k.name) kinds ++ replicate (16 - length kinds) 0
  pub marks : named ≡ map (λ k. stands_in hits k.name) kinds ++ replicate (16 - length kinds) false

-- the ranges of all occurrences are asked before any name
abbrev pub RefusesHits : List KindLine → List Hit → SReason → Type 0
RefusesHits kinds hits r = Fails (All (λ h. IsAmount h.times) hits) (Unit {0}) (AreKindsIn kinds hits) r
