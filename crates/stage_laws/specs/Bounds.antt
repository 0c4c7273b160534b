-- inner
-- How much steps add to what an event has counted with its copies, and how many ids they draw: sums stay small. This
-- project's own profile, after its limits on work and on copies.
use Rattle.std.specs.{Prelude.{ℕ, ◌+◌, ◌^◌, ◌<◌, ◌≤◌, max, Bool, true, false, All, List, filter, count_by, sum_by}, List.{fold}}
use Rattle.perf_base.specs.declared.{numbers.{EventNo.{EventNo}, TaskNo.{TaskNo}}, lines.{CpuLine.{CpuLine}, ToolLine.{ToolLine}}, reply.Sums.{Sums}}
use Rattle.perf_base.specs.declared.lines.CpuLine.TheVariants as cpu_line
use Rattle.perf_base.specs.declared.lines.ToolLine.TheVariants as tool_line
use Rattle.stage_spec.specs.{Hardware.{Hardware}, Stage.{Stage, all_instances, is_of_family, first_stage}}
use Rattle.stage_spec.specs.{History.{Step, CpuStep, ToolStep, SeenStep, stage_after}, Shares.{share, no_sums}, Families.{plus_each, family_sums}}
use Rattle.stage_spec.specs.Limits.{Limits, IsMachine, IsWithin, AreTaskNumbers}
use Rattle.stage_laws.specs.Sound.{IsSound}

-- the greatest of some numbers; 0 where there is none
abbrev pub greatest : List ℕ → ℕ
greatest numbers = fold max 0 numbers

-- The most that a step adds to an event with its copies. Of work: to the count its length or its greatest occurrences,
-- whichever is more, and to each time its length. Of a switch: 1 to the count.
abbrev pub most_of_line : CpuLine → Sums
most_of_line (cpu_line.Switch to) = record no_sums { count = 1 }
most_of_line (cpu_line.Work w) = record { count = max w.length (greatest w.hits); enabled = w.length; running = w.length }
most_of_line cpu_line.Tick = no_sums
most_of_line (cpu_line.Fork child) = no_sums
most_of_line cpu_line.Exit = no_sums

-- of any step
abbrev pub most_of : Step → Sums
most_of (CpuStep cpu line) = most_of_line line
most_of (ToolStep line) = no_sums
most_of (SeenStep ring place) = no_sums

-- and of some steps together
abbrev pub most_of_all : List Step → Sums
most_of_all steps = record {
  count = sum_by (λ x. (most_of x).count) steps;
  enabled = sum_by (λ x. (most_of x).enabled) steps;
  running = sum_by (λ x. (most_of x).running) steps;
}

-- the most ids that a line of a processor draws: one for each copy that a fork makes
abbrev pub most_drawn_by : CpuLine → ℕ
most_drawn_by (cpu_line.Switch to) = 0
most_drawn_by (cpu_line.Work w) = 0
most_drawn_by cpu_line.Tick = 0
most_drawn_by (cpu_line.Fork child) = 4096
most_drawn_by cpu_line.Exit = 0

-- that a line of a tool draws: one by an open
abbrev pub most_opened_by : ToolLine → ℕ
most_opened_by (tool_line.Open slot attr leader) = 1
most_opened_by _ = 0

-- and that any step draws
abbrev pub most_drawn : Step → ℕ
most_drawn (CpuStep cpu line) = most_drawn_by line
most_drawn (ToolStep line) = most_opened_by line
most_drawn (SeenStep ring place) = 0

-- a step whose line is within limits; where a tail was seen is of no matter
abbrev pub IsLineWithin : Limits → Step → Type 0
IsLineWithin l (CpuStep cpu line) = IsWithin l (CpuStep cpu line)
IsLineWithin l (ToolStep line) = IsWithin l (ToolStep line)
IsLineWithin l (SeenStep ring place) = Unit {0}

-- each of three sums is at most another
pub record AreAtMost (a b : Sums) : Type 0 where
  pub count : a.count ≤ b.count
  pub enabled : a.enabled ≤ b.enabled
  pub running : a.running ≤ b.running

-- each of three sums is below 2 to the 44
pub record AreSmall (sums : Sums) : Type 0 where
  pub count : sums.count < 2 ^ 44
  pub enabled : sums.enabled < 2 ^ 44
  pub running : sums.running < 2 ^ 44

-- A step within the limits adds at most that to an event and its copies together.
abbrev pub FamilyShareLaw : Type 0
FamilyShareLaw = (l : Limits) (hw : Hardware) (s : Stage) (x : Step) (e : EventNo) → IsMachine l hw → IsLineWithin l x → IsSound hw s
    → AreAtMost (plus_each (λ i. share hw s x i.id) (filter (is_of_family e) (all_instances s))) (most_of x)

-- So what an event has counted with its copies, those that have exited among them, is at most what all steps add.
abbrev pub FamilySumsLaw : Type 0
FamilySumsLaw = (l : Limits) (hw : Hardware) (declared : List TaskNo) (steps : List Step) (e : EventNo)
    → IsMachine l hw → AreTaskNumbers declared → All (IsLineWithin l) steps
    → AreAtMost (family_sums hw (first_stage l.cpus declared) steps e) (most_of_all steps)

-- whether a step does a line; a look at a ring does none
abbrev pub is_line : Step → Bool
is_line (CpuStep cpu line) = true
is_line (ToolStep line) = true
is_line (SeenStep ring place) = false

-- So it is small after 16,384 lines, however many looks there are between them.
abbrev pub SmallSumsLaw : Type 0
SmallSumsLaw = (l : Limits) (hw : Hardware) (declared : List TaskNo) (steps : List Step) (e : EventNo)
    → IsMachine l hw → AreTaskNumbers declared → All (IsLineWithin l) steps → count_by is_line steps ≤ 16384
    → AreSmall (family_sums hw (first_stage l.cpus declared) steps e)

-- Ids begin at 1, and steps draw at most this number.
abbrev pub FewIdsLaw : Type 0
FewIdsLaw = (l : Limits) (hw : Hardware) (declared : List TaskNo) (steps : List Step)
    → IsMachine l hw → AreTaskNumbers declared → All (IsLineWithin l) steps
    → (stage_after hw (first_stage l.cpus declared) steps).next_id ≤ 1 + sum_by most_drawn steps
