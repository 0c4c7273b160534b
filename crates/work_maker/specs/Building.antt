-- inner
-- What stands in the script of N rounds while it is built. It serves the contracts of this crate's own functions. This
-- project's own profile.
use Rattle.std.specs.Prelude.{ℕ, ◌+◌, List, [], ◌∷◌, ◌++◌, slice_set, replicate, nat_lt, if◌then◌else◌}
use Rattle.perf_base.specs.declared.{numbers.CpuNo.{CpuNo}, lines.{CpuLine.{CpuLine}, ToolLine.{ToolLine}}, acts.Act.{Act}}
use Rattle.perf_base.specs.Scripts.{Scripted, empty_script, lines_of_cpu, lines_of_tool}
use Rattle.work_maker.specs.Rounds.{made_pmus, made_kinds, for_each, made_task, made_ring, made_reader, processor_lines}

-- a script with several lines or acts more
abbrev pub with_cpu_lines : Scripted → CpuNo → List CpuLine → Scripted
with_cpu_lines s p lines = record s { cpu_lines = slice_set s.cpu_lines p.0 (lines_of_cpu s p ++ lines) }

abbrev pub with_first_tool_lines : Scripted → List ToolLine → Scripted
with_first_tool_lines s lines = record s { tool_lines = slice_set s.tool_lines 0 (lines_of_tool s (record { 0 = 0 }) ++ lines) }

abbrev pub with_acts : Scripted → List Act → Scripted
with_acts s acts = record s { order = s.order ++ acts }

-- the machine and its kinds, and the first tasks, rings and readers
abbrev pub declared : ℕ → Scripted
declared k = record (empty_script 4) { pmus = made_pmus; kinds = made_kinds; tasks = for_each k made_task; rings = for_each k made_ring; readers = for_each k made_reader }

-- all that is declared, a number of rounds of each processor, these lines of the tool, and this order
abbrev pub so_far : (ℕ → ℕ) → List ToolLine → List Act → Scripted
so_far rounds lines acts = record (declared 4) { cpu_lines = for_each 4 (λ p. processor_lines (rounds p) p) ++ replicate 4 []; tool_lines = lines ∷ replicate 3 []; order = acts }

-- how many rounds a processor has, when all have this number and those below this one have one more
abbrev pub rounds_below : ℕ → ℕ → ℕ → ℕ
rounds_below n below p = if nat_lt p below then n + 1 else n
