-- believed
-- Which line of a processor or tool a text says that names it first, after a head that declares the machine and its
-- kinds, and for which reason another text is refused. This project's own profile.
use Rattle.std.specs.Prelude.{◌≡◌, ℕ, ◌<◌, List, ◌∷◌, length, All, Some}
use Rattle.perf_base.specs.declared.{acts.Act.{Act}, lines.ToolLine.{ToolLine}, reasons.SReason.{SReason}}
use Rattle.perf_base.specs.Scripts.{Scripted, IsCpuLine, IsToolLine}
use Rattle.perf_base.specs.declared.acts.Act.TheVariants as act
use Rattle.perf_base.specs.declared.reasons.SReason.TheVariants as reason
use Rattle.script_spec.specs.{Acts.{act_text}, Lines.{words_of}, Forms.{Version, Form, IsActSpelling, IsOfForm}}
use Rattle.script_spec.specs.{Faults.{IsPrintable, IsCpuFormInRange, IsToolFormInRange, HasAttr, rank}, Meaning.{cpu_line_of, tool_line_of}}
use Rattle.script_spec.specs.Forms as form
use Rattle.script_read.specs.Names.{IsCpuFormNamedOf, IsToolFormNamedOf}
use Rattle.given_lines.specs.declared.given.Given.{Given}
use Rattle.given_lines.specs.declared.given.Given.TheVariants as given

-- a processor or a tool: these do lines. A tail that was seen is nobody's line.
abbrev pub IsWorker : Act → Type 0
IsWorker (act.Processor cpu) = Unit {0}
IsWorker (act.Tool tool) = Unit {0}
IsWorker (act.Seen ring place) = ⊥

-- the line's first word is that of a processor or tool, and the words after it are of this form
pub record IsOfActor (version : Version) (line : List ℕ) (a : Act) (f : Form) : Type 0 where
  pub worker : IsWorker a
  pub spelling : IsActSpelling a
  pub words : List (List ℕ)
  pub parts : words_of line ≡ act_text a ∷ words
  pub form : IsOfForm version words f

-- ---- what is asked of a line

-- a processor has the lines that stand under a processor, a tool those that stand under a tool
abbrev pub IsOwnLine : Act → Form → Type 0
IsOwnLine (act.Processor cpu) (form.OnProcessor line) = Unit {0}
IsOwnLine (act.Tool tool) (form.OnTool line) = Unit {0}
IsOwnLine a f = ⊥

-- the machine has the processor, or the tool is one of four, and the line's numbers are in their ranges
abbrev pub IsInRangeFor : Scripted → Act → Form → Type 0
IsInRangeFor s (act.Processor cpu) (form.OnProcessor line) = (cpu.0 < s.cpus) × IsCpuFormInRange line
IsInRangeFor s (act.Tool tool) (form.OnTool line) = (tool.0 < 4) × IsToolFormInRange s.cpus line
IsInRangeFor s a f = Unit {0}

-- the head declares the kinds and rings that the line names
abbrev pub IsNamedFor : Scripted → Form → Type 0
IsNamedFor s (form.OnProcessor line) = IsCpuFormNamedOf s.kinds line
IsNamedFor s (form.OnTool line) = IsToolFormNamedOf s line
IsNamedFor s other = Unit {0}

-- whatever actor and form the line is of
abbrev pub Each : Version → List ℕ → (Act → Form → Type 0) → Type 0
Each version line P = (a : Act) (f : Form) → IsOfActor version line a f → P a f

-- What a reason asks of a line, after a head that says this script. END, LIMIT, WEIGHT and ORDER are reasons of whole
-- texts.
abbrev pub Keeps : Scripted → Version → List ℕ → SReason → Type 0
Keeps s version line reason.Ascii = All IsPrintable line
Keeps s version line reason.Form = (a : Act) × (f : Form) × IsOfActor version line a f
Keeps s version line reason.Place = Each version line IsOwnLine
Keeps s version line reason.Range = Each version line (IsInRangeFor s)
Keeps s version line reason.Attr = Each version line (λ a f. HasAttr f)
Keeps s version line reason.Name = Each version line (λ a f. IsNamedFor s f)
Keeps s version line other = Unit {0}

-- the line is refused for this reason: it is the first that is not kept
pub record IsBadLine (s : Scripted) (version : Version) (line : List ℕ) (r : SReason) : Type 0 where
  pub earlier : (q : SReason) → rank q < rank r → Keeps s version line q
  pub broken : Keeps s version line r → ⊥

-- ---- the line that is given

-- what the form says of its processor or tool, kinds by number
abbrev pub Says : Scripted → Act → Form → Given → Type 0
Says s (act.Processor cpu) (form.OnProcessor line) g = g ≡ given.Cpu cpu (cpu_line_of s.kinds line)
Says s (act.Tool tool) (form.OnTool line) g = (l : ToolLine) × (tool_line_of s.kinds line ≡ Some l) × (g ≡ given.Tool tool l)
Says s a f g = ⊥

-- the bytes stand for this line of a processor or tool
pub record IsGivenLine (s : Scripted) (version : Version) (line : List ℕ) (g : Given) : Type 0 where
  pub actor : Act
  pub form : Form
  pub is : IsOfActor version line actor form
  pub keeps : (q : SReason) → Keeps s version line q
  pub says : Says s actor form g

-- a machine of this script can do the line: its processor or tool is there, its numbers are in their ranges, and its
-- kinds and rings are declared
abbrev pub IsLineFor : Scripted → Given → Type 0
IsLineFor s (given.Tool tool line) = (tool.0 < 4) × IsToolLine s.cpus (length s.kinds) s.rings line
IsLineFor s (given.Cpu cpu line) = (cpu.0 < s.cpus) × IsCpuLine (length s.kinds) line
