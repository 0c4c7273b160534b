-- believed
-- Which line an act does, and when an order is complete. This project's own profile.
use Rattle.std.specs.Prelude.{◌≡◌, ℕ, ◌==◌, ◌≤◌, List, ◌∷◌, ◌++◌, length, take, sum, fold, count_by, Option, slice_get, if◌then◌else◌}
use Rattle.perf_base.specs.declared.{numbers.{CpuNo.{CpuNo}, RingNo.{RingNo}, ToolNo.{ToolNo}}, lines.{CpuLine.{CpuLine}, ToolLine.{ToolLine}}}
use Rattle.perf_base.specs.{declared.acts.Act.{Act}, Scripts.{Scripted, lines_of_cpu, lines_of_tool}}
use Rattle.perf_base.specs.declared.acts.Act.TheVariants as act
pub use Rattle.perf_base.specs.Acts.{is_of_cpu, is_of_tool}

-- how many lines of it some acts have done
abbrev pub done_by_cpu : CpuNo → List Act → ℕ
done_by_cpu cpu acts = count_by (is_of_cpu cpu) acts

abbrev pub done_by_tool : ToolNo → List Act → ℕ
done_by_tool tool acts = count_by (is_of_tool tool) acts

-- the line that it does next: the one whose number is the count of its earlier acts
abbrev pub next_of_cpu : Scripted → List Act → CpuNo → Option CpuLine
next_of_cpu s before cpu = slice_get (lines_of_cpu s cpu) (done_by_cpu cpu before)

abbrev pub next_of_tool : Scripted → List Act → ToolNo → Option ToolLine
next_of_tool s before tool = slice_get (lines_of_tool s tool) (done_by_tool tool before)

-- No processor and no tool has more acts than lines.
pub record IsCounted (s : Scripted) (order : List Act) : Type 0 where
  pub cpus : (cpu : CpuNo) → done_by_cpu cpu order ≤ length (lines_of_cpu s cpu)
  pub tools : (tool : ToolNo) → done_by_tool tool order ≤ length (lines_of_tool s tool)

-- Each processor and each tool has exactly as many acts as lines.
pub record IsComplete (s : Scripted) (order : List Act) : Type 0 where
  pub cpus : (cpu : CpuNo) → done_by_cpu cpu order ≡ length (lines_of_cpu s cpu)
  pub tools : (tool : ToolNo) → done_by_tool tool order ≡ length (lines_of_tool s tool)

-- whether an act is a look at this ring's tail, and the place that the last such look saw; 0 where there is none
abbrev pub seen_at : RingNo → ℕ → Act → ℕ
seen_at ring last (act.Processor cpu) = last
seen_at ring last (act.Tool tool) = last
seen_at ring last (act.Seen other place) = if other.0 == ring.0 then place else last

abbrev pub last_seen : RingNo → List Act → ℕ
last_seen ring acts = fold (seen_at ring) 0 acts

-- A look is lawful where its place is at least the last one and stands behind some of the records that were written,
-- given by their sizes. So it is at most the ring's head, which stands behind all of them.
pub record IsLawfulSeen (sizes : List ℕ) (last place : ℕ) : Type 0 where
  pub above : last ≤ place
  pub behind : (n : ℕ) × (place ≡ sum (take n sizes))

-- An order is lawful where each look in it is, given the sizes of the records that are written on each ring after some
-- acts.
abbrev pub IsLawfulAct : (RingNo → List ℕ) → List Act → Act → Type 0
IsLawfulAct sizes before (act.Processor cpu) = Unit {0}
IsLawfulAct sizes before (act.Tool tool) = Unit {0}
IsLawfulAct sizes before (act.Seen ring place) = IsLawfulSeen (sizes ring) (last_seen ring before) place

abbrev pub IsLawful : (List Act → RingNo → List ℕ) → List Act → Type 0
IsLawful sizes order = (before after : List Act) (a : Act) → order ≡ before ++ a ∷ after → IsLawfulAct (sizes before) before a
