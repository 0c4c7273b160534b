-- believed
-- Which text stands for which script, and which line of another text is refused for which reason. This
-- project's own profile.
use Rattle.std.specs.Prelude.{◌≡◌, ◌≢◌, ℕ, ◌+◌, ◌<◌, ◌⊎◌, List, [], ◌∷◌, length, take, All, Any, slice_index_or, codes, if◌then◌else◌}
use Rattle.std.specs.Str.{bytes_eq}
use Rattle.perf_base.specs.{declared.reasons.SReason.{SReason}, Scripts.{Scripted}}
use Rattle.perf_base.specs.declared.reasons.SReason.TheVariants as reason
use Rattle.script_spec.specs.{Lines.{lines_of, rest_of}, Forms.{Version, Form}, Meaning.{script_of}, Faults.{IsNoEnd, IsFaulty, IsSound}}
use Rattle.script_spec.specs.Forms as form

-- a text whose first line is `perf 2` is of version two, every other one of version one
abbrev pub version_of : List (List ℕ) → Version
version_of [] = form.One
version_of (line ∷ lines) = if bytes_eq line (codes "perf 2") then form.Two else form.One

-- the lines are of these forms, and none is faulty behind those before it
pub record AreSound (version : Version) (lines : List (List ℕ)) (forms : List Form) : Type 0 where
  pub as_many : length forms ≡ length lines
  pub each : (k : ℕ) → k < length lines → IsSound version (take k forms) (slice_index_or lines k []) (slice_index_or forms k form.End)

-- All lines are sound and ended by an LF, and there is an `end` line, behind which nothing stands.
pub record IsWholeText (text : List ℕ) (forms : List Form) : Type 0 where
  pub sound : AreSound (version_of (lines_of text)) (lines_of text) forms
  pub ended : rest_of text ≡ []
  pub has_end : Any (λ f. f ≡ form.End) forms

-- this text stands for this script
abbrev pub StandsFor : List ℕ → Scripted → Type 0
StandsFor text s = (forms : List Form) × IsWholeText text forms × (s ≡ script_of forms)

-- Behind the forms of the lines before it stands a faulty line. Lines are numbered from 1.
pub record HasFaultyLine (text : List ℕ) (before : List Form) (line : ℕ) (r : SReason) : Type 0 where
  pub within : length before < length (lines_of text)
  pub sound : AreSound (version_of (lines_of text)) (take (length before) (lines_of text)) before
  pub faulty : IsFaulty (version_of (lines_of text)) before (slice_index_or (lines_of text) (length before) []) r
  pub number : line ≡ length before + 1

-- No line is faulty, and something stands behind the last LF.
pub record IsCutOff (text : List ℕ) (forms : List Form) (line : ℕ) (r : SReason) : Type 0 where
  pub sound : AreSound (version_of (lines_of text)) (lines_of text) forms
  pub more : rest_of text ≢ []
  pub number : line ≡ length (lines_of text) + 1
  pub is_end : r ≡ reason.End

-- No line is faulty, and none is an `end` line. The last line is named, or line 0 of an empty text.
pub record HasNoEnd (text : List ℕ) (forms : List Form) (line : ℕ) (r : SReason) : Type 0 where
  pub sound : AreSound (version_of (lines_of text)) (lines_of text) forms
  pub ended : rest_of text ≡ []
  pub no_end : All IsNoEnd forms
  pub number : line ≡ length (lines_of text)
  pub is_end : r ≡ reason.End

-- this text is refused at this line for this reason
abbrev pub IsRefused : List ℕ → ℕ → SReason → Type 0
IsRefused text line r = (forms : List Form) × (HasFaultyLine text forms line r ⊎ (IsCutOff text forms line r ⊎ HasNoEnd text forms line r))
