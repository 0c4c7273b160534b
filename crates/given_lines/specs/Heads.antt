-- believed
-- Which text is a head: a script that declares its machine, its kinds and its tasks, and has no ring, no line under a
-- processor or tool, no reader and no order. This project's own profile.
use Rattle.std.specs.Prelude.{◌≡◌, ℕ, ◌+◌, ◌<◌, ◌≤◌, ◌⊎◌, List, [], length, All, replicate, slice_index_or}
use Rattle.perf_base.specs.{declared.reasons.SReason.{SReason}, Scripts.{Scripted}}
use Rattle.perf_base.specs.declared.reasons.SReason.TheVariants as reason
use Rattle.script_spec.specs.{Lines.{lines_of, words_of}, Forms.{Version, Form, IsOfForm}, Texts.{version_of, StandsFor, IsRefused}}
use Rattle.script_spec.specs.Forms as form
use Rattle.script_read.specs.declared.fault.ScriptFault.{ScriptFault}
use Rattle.script_read.specs.declared.fault.ScriptFault.TheVariants as fault

-- the forms that may stand in a head
abbrev pub IsDeclaration : Form → Type 0
IsDeclaration (form.Perf version) = Unit {0}
IsDeclaration (form.Machine cpus counters) = Unit {0}
IsDeclaration (form.MachineOfPmus cpus) = Unit {0}
IsDeclaration (form.Pmu number counters cpus) = Unit {0}
IsDeclaration (form.Kind name mask) = Unit {0}
IsDeclaration (form.KindOfPmu name pmu mask) = Unit {0}
IsDeclaration (form.Task number) = Unit {0}
IsDeclaration (form.Ring number bytes) = ⊥
IsDeclaration (form.Processor number) = ⊥
IsDeclaration (form.OnProcessor line) = ⊥
IsDeclaration (form.Tool number) = ⊥
IsDeclaration (form.OnTool line) = ⊥
IsDeclaration (form.Reader ring tries batch) = ⊥
IsDeclaration (form.Order acts) = ⊥
IsDeclaration form.End = Unit {0}

-- the line is of another form
abbrev pub IsUndeclared : Version → List ℕ → Type 0
IsUndeclared version line = (f : Form) × IsOfForm version (words_of line) f × (IsDeclaration f → ⊥)

-- no line is of another form
abbrev pub AreDeclared : Version → List (List ℕ) → Type 0
AreDeclared version lines = All (λ line. IsUndeclared version line → ⊥) lines

-- The first line of the text that is of another form. Lines are numbered from 1.
pub record IsFirstUndeclared (text : List ℕ) (n : ℕ) : Type 0 where
  pub before : ℕ
  pub number : n ≡ before + 1
  pub within : before < length (lines_of text)
  pub is : IsUndeclared (version_of (lines_of text)) (slice_index_or (lines_of text) before [])
  pub first : (k : ℕ) → k < before → IsUndeclared (version_of (lines_of text)) (slice_index_or (lines_of text) k []) → ⊥

-- the text stands for this script, and no line is of another form
pub record IsHead (text : List ℕ) (s : Scripted) : Type 0 where
  pub stands : StandsFor text s
  pub declares : AreDeclared (version_of (lines_of text)) (lines_of text)

-- The text is refused where a script is, if that is before its first line of another form; else at that line, for its
-- place.
abbrev pub IsHeadRefused : List ℕ → ℕ → SReason → Type 0
IsHeadRefused text n r =
    (IsRefused text n r × ((m : ℕ) → IsFirstUndeclared text m → n < m))
    ⊎ (IsFirstUndeclared text n × (r ≡ reason.Place) × ((m : ℕ) (q : SReason) → IsRefused text m q → n ≤ m))

-- a fault is the line at which the text is refused and the reason, or want of memory
abbrev pub BlamesHead : List ℕ → ScriptFault → Type 0
BlamesHead text (fault.Bad n r) = IsHeadRefused text n r
BlamesHead text fault.NoMemory = Unit {0}

-- nothing but declarations
pub record IsBare (s : Scripted) : Type 0 where
  pub rings : s.rings ≡ []
  pub cpu_lines : s.cpu_lines ≡ replicate 8 []
  pub tool_lines : s.tool_lines ≡ replicate 4 []
  pub readers : s.readers ≡ []
  pub order : s.order ≡ []
