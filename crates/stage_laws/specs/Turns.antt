-- inner
-- How the flexible hardware groups of a context take turns at a processor's ticks. After the rotation of flexible
-- groups by perf_rotate_context and rotate_ctx of kernel/events/core.c; which group moves is this project's own
-- profile.
use Rattle.std.specs.Prelude.{◌≡◌, ℕ, ◌+◌, ◌<◌, ◌≤◌, ◌==◌, Bool, true, false, not, ◌&&◌, All, List, [], ◌∷◌, ◌++◌, length, filter, find, take, drop, Option, Some, if◌then◌else◌}
use Rattle.std.specs.List.{list_any}
use Rattle.perf_base.specs.declared.{numbers.CpuNo.{CpuNo}, lines.CpuLine.{CpuLine}, standing.Context.{Context}}
use Rattle.perf_base.specs.declared.lines.CpuLine.TheVariants as cpu_line
use Rattle.stage_spec.specs.{Hardware.{Hardware}, Stage.{Stage, Group, lists_of, task_on}, Verdict.{verdicts}}
use Rattle.stage_spec.specs.{Rotation.{first_goes_last, waits, takes_turns}, History.{Step, CpuStep, ToolStep, SeenStep, stage_step, stage_after}}
use Rattle.stage_laws.specs.Narrowing.{has_context}

-- the flexible groups of a context
abbrev pub flexible_of : Stage → Context → List Group
flexible_of s c = (lists_of s c).flexible

-- the groups of a context that take turns on a processor, in their order, and the first of them
abbrev pub turn_takers : Hardware → CpuNo → Context → Stage → List Group
turn_takers hw cpu c s = filter (takes_turns hw cpu) (flexible_of s c)

abbrev pub first_in_turn : Hardware → CpuNo → Context → Stage → Option Group
first_in_turn hw cpu c s = find (takes_turns hw cpu) (flexible_of s c)

-- whether some eligible flexible group of a context is not on
abbrev pub is_waiting : Hardware → CpuNo → Context → Stage → Bool
is_waiting hw cpu c s = list_any (waits hw cpu (verdicts hw s cpu)) (flexible_of s c)

-- the stage after a tick of a processor
abbrev pub ticked : Hardware → CpuNo → Stage → Stage
ticked hw cpu s = stage_step hw s (CpuStep cpu cpu_line.Tick)

-- The first that passes a test goes last: those that pass are turned by one place, and the others keep their order
-- among themselves.
abbrev pub FirstGoesLastLaw : Type 0
FirstGoesLastLaw = (test : Group → Bool) (groups : List Group)
    → (filter test (first_goes_last test groups) ≡ drop 1 (filter test groups) ++ take 1 (filter test groups))
    × (filter (λ g. not (test g)) (first_goes_last test groups) ≡ filter (λ g. not (test g)) groups)

-- The first of the groups that take turns went last, so that these are turned by one place, and the other flexible
-- groups of the context keep their order among themselves.
pub record IsTurned (hw : Hardware) (cpu : CpuNo) (c : Context) (s t : Stage) : Type 0 where
  pub groups : flexible_of t c ≡ first_goes_last (takes_turns hw cpu) (flexible_of s c)
  pub takers : turn_takers hw cpu c t ≡ drop 1 (turn_takers hw cpu c s) ++ take 1 (turn_takers hw cpu c s)
  pub others : filter (λ g. not (takes_turns hw cpu g)) (flexible_of t c) ≡ filter (λ g. not (takes_turns hw cpu g)) (flexible_of s c)

-- A tick turns each of its processor's two contexts in which some eligible flexible group is not on. It leaves the
-- flexible groups of one in which all are on.
abbrev pub TickLaw : Type 0
TickLaw = (hw : Hardware) (cpu : CpuNo) (c : Context) (s : Stage) → cpu.0 < 8 → has_context s cpu c ≡ true
    → (is_waiting hw cpu c s ≡ true → IsTurned hw cpu c s (ticked hw cpu s)) × (is_waiting hw cpu c s ≡ false → flexible_of (ticked hw cpu s) c ≡ flexible_of s c)

-- It leaves the flexible groups of all contexts that are not its processor's.
abbrev pub OtherContextsLaw : Type 0
OtherContextsLaw = (hw : Hardware) (cpu : CpuNo) (c : Context) (s : Stage) → length s.contexts ≡ 72 → has_context s cpu c ≡ false
    → flexible_of (ticked hw cpu s) c ≡ flexible_of s c

-- whether a step is a tick of a processor, and how many steps are ticks at which some eligible flexible group of a
-- context is not on
abbrev pub is_tick_line : CpuLine → Bool
is_tick_line cpu_line.Tick = true
is_tick_line _ = false

abbrev pub is_tick : CpuNo → Step → Bool
is_tick cpu (CpuStep other line) = other.0 == cpu.0 && is_tick_line line
is_tick cpu (ToolStep line) = false
is_tick cpu (SeenStep ring place) = false

unfoldable pub waiting_ticks : Hardware → CpuNo → Context → Stage → List Step → ℕ
waiting_ticks hw cpu c s [] = 0
waiting_ticks hw cpu c s (x ∷ steps) = (if is_tick cpu x && is_waiting hw cpu c s then 1 else 0) + waiting_ticks hw cpu c (stage_step hw s x) steps

-- what leaves the flexible groups of a context and the task on a processor
pub record LeavesTurns (cpu : CpuNo) (c : Context) (s t : Stage) : Type 0 where
  pub flexible : flexible_of t c ≡ flexible_of s c
  pub task : task_on t cpu ≡ task_on s cpu

-- each of some steps is a tick of the processor, or leaves them
unfoldable pub IsTurning : Hardware → CpuNo → Context → Stage → List Step → Type 0
IsTurning hw cpu c s [] = Unit {0}
IsTurning hw cpu c s (x ∷ steps) =
    (is_tick cpu x ≡ false → LeavesTurns cpu c s (stage_step hw s x)) × IsTurning hw cpu c (stage_step hw s x) steps

-- a group was the first of those that take turns, at the start or after some of the steps
abbrev pub WasFirst : Hardware → CpuNo → Context → Stage → List Step → Group → Type 0
WasFirst hw cpu c s steps g = (n : ℕ) × (n ≤ length steps) × (first_in_turn hw cpu c (stage_after hw s (take n steps)) ≡ Some g)

-- The law of turns: of k groups of a context of a processor that take turns, each was the first at the start or after
-- one of k - 1 ticks of the processor, at each of which some eligible flexible group of the context is not on, with
-- nothing between them that changes its flexible groups or the task there.
abbrev pub TurnsLaw : Type 0
TurnsLaw = (hw : Hardware) (cpu : CpuNo) (c : Context) (s : Stage) (steps : List Step) → cpu.0 < 8 → has_context s cpu c ≡ true
    → IsTurning hw cpu c s steps → length (turn_takers hw cpu c s) ≤ waiting_ticks hw cpu c s steps + 1
    → All (WasFirst hw cpu c s steps) (turn_takers hw cpu c s)

-- Over j of such ticks, j at most k, the k groups that take turns are turned by j places.
abbrev pub PlacesLaw : Type 0
PlacesLaw = (hw : Hardware) (cpu : CpuNo) (c : Context) (s : Stage) (steps : List Step) → cpu.0 < 8 → has_context s cpu c ≡ true
    → IsTurning hw cpu c s steps → waiting_ticks hw cpu c s steps ≤ length (turn_takers hw cpu c s)
    → turn_takers hw cpu c (stage_after hw s steps)
    ≡ drop (waiting_ticks hw cpu c s steps) (turn_takers hw cpu c s) ++ take (waiting_ticks hw cpu c s steps) (turn_takers hw cpu c s)
