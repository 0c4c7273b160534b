-- inner
-- Passing over the lines of a head, and which of two faults comes first. This project's own profile.
use Rattle.std.specs.Prelude.{◌≡◌, ℕ, ◌+◌, ◌≤◌, nat_lt, List, ◌++◌, length, Result, Ok, Err, if◌then◌else◌}
use Rattle.perf_base.specs.Scripts.{Scripted}
use Rattle.perf_base.specs.declared.reasons.SReason.TheVariants as reason
use Rattle.script_spec.specs.{Lines.{lines_of}, Forms.{Version}}
use Rattle.script_read.specs.declared.fault.ScriptFault.{ScriptFault}
use Rattle.script_read.specs.declared.fault.ScriptFault.TheVariants as fault
use Rattle.given_lines.specs.Heads.{AreDeclared}

-- n lines were passed over, and this is left
pub record IsPassed (version : Version) (text : List ℕ) (n : ℕ) (left : List ℕ) : Type 0 where
  pub front : List (List ℕ)
  pub many : length front ≡ n
  pub lines : lines_of text ≡ front ++ lines_of left
  pub declared : AreDeclared version front
  pub few : n + length left ≤ length text

-- the fault of a text whose first undeclared line is this, by what reading it as a script gave
abbrev pub fault_with : Result Scripted ScriptFault → ℕ → ScriptFault
fault_with (Ok s) first = fault.Bad first reason.Place
fault_with (Err (fault.Bad line r)) first = if nat_lt line first then fault.Bad line r else fault.Bad first reason.Place
fault_with (Err fault.NoMemory) first = fault.NoMemory
