-- What an order of a script counts is small, since it does each line of the script once.
use Rattle.std.{specs.Prelude.{◌≡◌, ℕ, ◌+◌, ◌≤◌, List, [], ◌∷◌, length, sum_by, count_by}, proofs.Common.{arith, refl}}
use Rattle.std.proofs.lemmas.List.Sums.{sum_by-cons}
use Rattle.perf_base.specs.{declared.{acts.Act.{Act}, lines.{CpuLine.{CpuLine}, ToolLine.{ToolLine}}}, Scripts.{Scripted, line_count}}
use Rattle.stage_spec.specs.{Hardware.{hardware_of}, Limits.{limits_of}, History.{Step, CpuStep, ToolStep, SeenStep, history}}
use Rattle.stage_spec.proofs.Machines.{script_machine}
use Rattle.stage_laws.{specs.Bounds.{is_line}, proofs.{BoundsWhole.{family_small}, Counts.{count-cons}}}
use Rattle.ring_laws.{specs.Clocks.{SmallSumsOfScriptLaw, SmallClockOfScriptLaw}, proofs.Clocks.{clock_small}}
use Rattle.ring_laws.proofs.Orders.{none_done, by_tools, by_cpus, tools_from, cpus_from, within}

pub ones : {X : Type 0} (xs : List X) → sum_by (λ x. 1) xs ≡ length xs
ones [] = refl
ones (x ∷ xs) = omega (arith, ones xs, sum_by-cons (λ y. 1) x xs)

pub all_ones : {X : Type 0} (lists : List (List X)) → sum_by (sum_by (λ x. 1)) lists ≡ sum_by length lists
all_ones [] = refl
all_ones (xs ∷ lists) = omega (arith, ones xs, all_ones lists, sum_by-cons (sum_by (λ x. 1)) xs lists, sum_by-cons length xs lists)

abbrev one_tool : ToolLine → ℕ
one_tool line = 1

abbrev one_cpu : CpuLine → ℕ
one_cpu line = 1

pub lines_counted : (steps : List Step) → count_by is_line steps ≡ sum_by (by_tools one_tool) steps + sum_by (by_cpus one_cpu) steps
lines_counted [] = refl
lines_counted (CpuStep cpu line ∷ steps) = omega (
  arith,
  lines_counted steps,
  count-cons is_line (CpuStep cpu line) steps,
  sum_by-cons (by_tools one_tool) (CpuStep cpu line) steps,
  sum_by-cons (by_cpus one_cpu) (CpuStep cpu line) steps,
)
lines_counted (ToolStep line ∷ steps) = omega (
  arith,
  lines_counted steps,
  count-cons is_line (ToolStep line) steps,
  sum_by-cons (by_tools one_tool) (ToolStep line) steps,
  sum_by-cons (by_cpus one_cpu) (ToolStep line) steps,
)
lines_counted (SeenStep ring place ∷ steps) = grind (arith, count-cons, sum_by-cons, by_tools, by_cpus, lines_counted steps)

lines_done : (s : Scripted) (order : List Act) → count_by is_line (history s order) ≤ line_count s
lines_done s order = omega (
  arith,
  lines_counted (history s order),
  tools_from s one_tool [] order,
  cpus_from s one_cpu [] order,
  none_done one_tool s.tool_lines,
  none_done one_cpu s.cpu_lines,
  all_ones s.tool_lines,
  all_ones s.cpu_lines,
)

pub sums_of_script : SmallSumsOfScriptLaw
sums_of_script s order e h covered =
    family_small (limits_of s) (hardware_of s) s.tasks (history s order) e (script_machine s h covered) h.tasks (within s [] order h) (omega (arith, lines_done s order, h.lines_few))

pub clock_of_script : SmallClockOfScriptLaw
clock_of_script s order cpu h = clock_small (limits_of s) (history s order) cpu (within s [] order h) (omega (arith, lines_done s order, h.lines_few))
