-- inner
-- How far a text is read, by the forms of its lines so far. This project's own profile.
use Rattle.std.specs.Prelude.{◌≡◌, ℕ, List, [], ◌∷◌, ◌++◌, Bool, false}
use Rattle.perf_base.specs.declared.reasons.SReason.{SReason}
use Rattle.script_spec.specs.{Forms.{Version, Form}, Faults.{IsPlaced, IsInRange, HasAttr, IsNamed, IsWithinLimits, IsWithinWeight, IsSound}}
use Rattle.script_spec.specs.Forms as form
use Rattle.script_read.specs.{declared.progress.Progress.{Progress}, Fault.{AsksThese, IsFirstBroken}, State.{is_end, Follows}}
use Rattle.script_read.specs.declared.progress.Progress.TheVariants as progress

-- the lines so far are of these forms
abbrev pub Behind : List Form → Progress → Type 0
Behind forms progress.Nothing = forms ≡ []
Behind forms progress.Version = (v : Version) × (forms ≡ form.Perf v ∷ [])
Behind forms (progress.Machine s) = Follows forms s

-- what each reason asks of a form behind those before it, and the first reason for which it is refused
abbrev pub AsksOf : List Form → Form → SReason → Type 0
AsksOf before f = AsksThese (IsPlaced before f) (IsInRange before f) (HasAttr f) (IsNamed before f) (IsWithinLimits before f) (IsWithinWeight before f)

abbrev pub IsFirstOf : List Form → Form → SReason → Type 0
IsFirstOf before f = IsFirstBroken (AsksOf before f)

-- a form is taken behind those before it
pub record IsTaken (before : List Form) (f : Form) (p : Progress) : Type 0 where
  pub asks : (q : SReason) → AsksOf before f q
  pub behind : Behind (before ++ f ∷ []) p

-- whether the `end` line was read
abbrev pub ended_of : Progress → Bool
ended_of progress.Nothing = false
ended_of progress.Version = false
ended_of (progress.Machine s) = is_end s.section

-- a line is sound behind those before it, and taken
pub record IsTakenLine (version : Version) (before : List Form) (line : List ℕ) (p : Progress) : Type 0 where
  pub form : Form
  pub sound : IsSound version before line form
  pub behind : Behind (before ++ form ∷ []) p
