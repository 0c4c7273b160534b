-- inner
-- What each reason asks, and which is blamed. This project's own profile.
use Rattle.std.specs.Prelude.{◌<◌}
use Rattle.perf_base.specs.declared.reasons.SReason.{SReason}
use Rattle.perf_base.specs.declared.reasons.SReason.TheVariants as reason
use Rattle.script_spec.specs.Faults.{rank}
use Rattle.script_read.specs.declared.fault.LineFault.{LineFault}
use Rattle.script_read.specs.declared.fault.LineFault.TheVariants as fault

-- six reasons ask these of a form, the others nothing
abbrev pub AsksThese : (place range attr name limit weight : Type 0) → SReason → Type 0
AsksThese place range attr name limit weight reason.Place = place
AsksThese place range attr name limit weight reason.Range = range
AsksThese place range attr name limit weight reason.Attr = attr
AsksThese place range attr name limit weight reason.Name = name
AsksThese place range attr name limit weight reason.Limit = limit
AsksThese place range attr name limit weight reason.Weight = weight
AsksThese place range attr name limit weight reason.Ascii = Unit {0}
AsksThese place range attr name limit weight reason.Form = Unit {0}
AsksThese place range attr name limit weight reason.Order = Unit {0}
AsksThese place range attr name limit weight reason.End = Unit {0}

-- what this reason asks is broken, and what those before it ask is kept
pub record IsFirstBroken (asks : SReason → Type 0) (r : SReason) : Type 0 where
  pub earlier : (q : SReason) → rank q < rank r → asks q
  pub broken : asks r → ⊥

-- a fault other than want of memory
abbrev pub Blames : LineFault → (SReason → Type 0) → Type 0
Blames (fault.Bad r) P = P r
Blames fault.NoMemory P = Unit {0}
