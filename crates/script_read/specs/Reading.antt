-- inner
-- What reading gives, line by line and at the end. This project's own profile.
use Rattle.std.specs.Prelude.{◌≡◌, ◌≢◌, ℕ, ◌+◌, ◌<◌, ◌≤◌, ◌⊎◌, ◌&&◌, nat_le, Bool, true, false, List, [], ◌∷◌, ◌++◌, length, take}
use Rattle.perf_base.specs.Scripts.{Scripted}
use Rattle.perf_base.specs.declared.reasons.SReason.TheVariants as reason
use Rattle.script_spec.specs.{Lines.{lines_of, rest_of}, Forms.{Form}, Texts.{version_of, AreSound, IsRefused}}
use Rattle.script_read.specs.declared.{progress.Progress.{Progress}, fault.{ScriptFault.{ScriptFault}, LineFault.{LineFault}}}
use Rattle.script_read.specs.Progress.{Behind, ended_of}
use Rattle.script_read.specs.declared.progress.Progress.TheVariants as progress
use Rattle.script_read.specs.declared.fault.ScriptFault.TheVariants as fault
use Rattle.script_read.specs.declared.fault.LineFault.TheVariants as line_fault

-- the next line and what is behind it, or nothing but the rest
pub record IsNextLine (text line more : List ℕ) : Type 0 where
  pub lines : lines_of text ≡ line ∷ lines_of more
  pub rest : rest_of text ≡ rest_of more
  pub shorter : length more < length text

pub record HasNoLine (text : List ℕ) : Type 0 where
  pub lines : lines_of text ≡ []
  pub rest : rest_of text ≡ text

-- a printable byte of ASCII
abbrev pub is_plain : ℕ → Bool
is_plain b = nat_le 32 b && nat_le b 126

-- n lines were read, and this is left
pub record IsReading (text : List ℕ) (p : Progress) (n : ℕ) (left : List ℕ) : Type 0 where
  pub forms : List Form
  pub behind : Behind forms p
  pub many : length forms ≡ n
  pub sound : AreSound (version_of (lines_of text)) (take n (lines_of text)) forms
  pub lines : lines_of text ≡ take n (lines_of text) ++ lines_of left
  pub rest : rest_of text ≡ rest_of left
  pub few : n + length left ≤ length text

-- the script of the lines that were read
abbrev pub Says : Progress → Scripted → Type 0
Says progress.Nothing s = ⊥
Says progress.Version s = ⊥
Says (progress.Machine t) s = s ≡ t.script

pub record IsFinished (rest : List ℕ) (p : Progress) (s : Scripted) : Type 0 where
  pub nothing : rest ≡ []
  pub ended : ended_of p ≡ true
  pub says : Says p s

-- something stands behind the last LF, or there was no end
abbrev pub IsUnfinished : List ℕ → Progress → ℕ → ScriptFault → Type 0
IsUnfinished rest p n e = ((rest ≢ []) × (e ≡ fault.Bad (n + 1) reason.End)) ⊎ ((rest ≡ []) × (ended_of p ≡ false) × (e ≡ fault.Bad n reason.End))

-- a line's fault in the text
abbrev pub blamed_of : ℕ → LineFault → ScriptFault
blamed_of n (line_fault.Bad r) = fault.Bad n r
blamed_of n line_fault.NoMemory = fault.NoMemory

-- a fault other than want of memory is the line's that is refused, with its reason
abbrev pub IsBlamed : List ℕ → ScriptFault → Type 0
IsBlamed text (fault.Bad line r) = IsRefused text line r
IsBlamed text fault.NoMemory = Unit {0}
