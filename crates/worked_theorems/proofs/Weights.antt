-- Weights worked out by hand: which samples scripts of six stretches of work, five opens and a new period may bring.
use Rattle.std.{specs.Prelude.{◌≡◌, ℕ, List, [], ◌∷◌, ◌++◌, map, None}, proofs.Common.{refl}}
use Rattle.perf_base.specs.{Scripts.{Scripted, empty_script, with_cpu_line, with_tool_line, line_count}, Weight.{weight}}
use Rattle.perf_base.specs.declared.lines.{CpuLine.{CpuLine}, ToolLine.{ToolLine}}
use Rattle.perf_base.specs.declared.attr.Kind.TheVariants as kind
use Rattle.perf_base.specs.declared.attr.TaskSel.TheVariants as tasks
use Rattle.perf_base.specs.declared.attr.CpuSel.TheVariants as cpus
use Rattle.perf_base.specs.declared.lines.Mode.TheVariants as mode
use Rattle.perf_base.specs.declared.lines.CpuLine.TheVariants as cpu_line
use Rattle.perf_base.specs.declared.lines.ToolLine.TheVariants as tool_line
use Rattle.worked_theorems.proofs.answers.Words.{cpu, slot, attr, work, eight, four}

-- a stretch of work in which the first kind occurs a number of times
abbrev stretch : ℕ → CpuLine
stretch times = cpu_line.Work (work 1 mode.User 0 (times ∷ []))

-- an open of an event of the first kind with a period
abbrev opening : ℕ → ToolLine
opening period = tool_line.Open (slot 0) (attr (kind.Hard 0) tasks.All (cpus.One (cpu 0)) period 0 0 0) None

-- The opens are of three tools; the second one gives the event another period behind its opens.
abbrev weighed : (times : List ℕ) → (first second third : List ℕ) → (period : ℕ) → Scripted
weighed times first second third period = record (empty_script 1) {
  cpu_lines = eight (map stretch times ∷ []);
  tool_lines = four (
      map opening first ∷
      (map opening second ++ tool_line.Period (slot 0) period ∷ []) ∷
      map opening third ∷
      []);
}

-- 2 opens, and by 7: 274 + 1 + 1 + 6 + 1
pub two_opens_by_seven : weight (weighed (1918 ∷ 1 ∷ 6 ∷ 42 ∷ 7 ∷ 0 ∷ []) (35 ∷ 0 ∷ []) (7 ∷ 0 ∷ []) (0 ∷ []) 0) ≡ 566
two_opens_by_seven = refl

-- 1 open, and by 2: 1 + 25 + 1 + 20
pub one_open_by_two : weight (weighed (0 ∷ 0 ∷ 1 ∷ 49 ∷ 1 ∷ 40 ∷ []) (0 ∷ 0 ∷ []) (2 ∷ 0 ∷ []) (0 ∷ []) 0) ≡ 47
one_open_by_two = refl

-- 2 opens, and by 2: 1 + 32
pub two_opens_by_two : weight (weighed (0 ∷ 2 ∷ 64 ∷ 0 ∷ 0 ∷ 0 ∷ []) (14 ∷ 0 ∷ []) (0 ∷ 0 ∷ []) (2 ∷ []) 0) ≡ 66
two_opens_by_two = refl

-- The period that a later line gives is the least.
pub a_later_line_gives_the_period : weight (weighed (9 ∷ 4 ∷ 1 ∷ 0 ∷ 0 ∷ 0 ∷ []) (9 ∷ 0 ∷ []) (8 ∷ 0 ∷ []) (0 ∷ []) 4) ≡ 10
a_later_line_gives_the_period = refl

-- No open gives a period.
pub no_open_samples : weight (weighed (9 ∷ 4 ∷ 1 ∷ 0 ∷ 0 ∷ 0 ∷ []) (0 ∷ 0 ∷ []) (0 ∷ 0 ∷ []) (0 ∷ []) 4) ≡ 0
no_open_samples = refl

-- A script with a line of a processor and a line of a tool, which opens nothing.
abbrev two_lines : Scripted
two_lines = with_tool_line (with_cpu_line (empty_script 1) (cpu 0) cpu_line.Tick) (record { 0 = 0 }) (tool_line.Close (slot 0))

pub two_lines_are_counted : line_count two_lines ≡ 2
two_lines_are_counted = refl

pub two_lines_weigh_nothing : weight two_lines ≡ 0
two_lines_weigh_nothing = refl
