-- believed
-- What an event has counted with its copies, those that have exited among them. After __perf_event_read_value and
-- sync_child_event of kernel/events/core.c.
use Rattle.std.specs.Prelude.{◌+◌, ◌&&◌, List, [], ◌∷◌, ◌++◌, filter}
use Rattle.perf_base.specs.declared.{numbers.{CpuNo.{CpuNo}, EventNo.{EventNo}}, lines.CpuLine.{CpuLine}, reply.Sums.{Sums}}
use Rattle.perf_base.specs.declared.lines.CpuLine.TheVariants as cpu_line
use Rattle.stage_spec.specs.{declared.instance.Instance.{Instance}, Hardware.{Hardware}}
use Rattle.stage_spec.specs.{Stage.{Stage, groups_in, members, all_instances, is_of_family, task_on}, Verdict.{task_lists}}
use Rattle.stage_spec.specs.{History.{Step, CpuStep, ToolStep, SeenStep, stage_after}, Shares.{no_sums}, Sums.{sums_of}}

-- sums added up
abbrev pub plus : Sums → Sums → Sums
plus a b = record { count = a.count + b.count; enabled = a.enabled + b.enabled; running = a.running + b.running }

abbrev pub plus_each : (Instance → Sums) → List Instance → Sums
plus_each f [] = no_sums
plus_each f (i ∷ instances) = plus (f i) (plus_each f instances)

-- the copies of an event that go by a step: those of the task that exits
abbrev pub leaving_by : Stage → CpuNo → CpuLine → EventNo → List Instance
leaving_by s cpu (cpu_line.Switch to) e = []
leaving_by s cpu (cpu_line.Work w) e = []
leaving_by s cpu cpu_line.Tick e = []
leaving_by s cpu (cpu_line.Fork child) e = []
leaving_by s cpu cpu_line.Exit e = filter (λ i. is_of_family e i && i.copy) (members (groups_in (task_lists s (task_on s cpu))))

abbrev pub leaving : Stage → Step → EventNo → List Instance
leaving s (CpuStep cpu line) e = leaving_by s cpu line e
leaving s (ToolStep line) e = []
leaving s (SeenStep ring place) e = []

-- The folded sums of an event: the sums of each copy as they were when it went. The first of the steps comes after
-- those before it, the first of which was at a stage.
unfoldable pub folded_from : Hardware → Stage → EventNo → (before steps : List Step) → Sums
folded_from hw s e before [] = no_sums
folded_from hw s e before (x ∷ steps) =
    plus (plus_each (λ i. sums_of hw s before i.id) (leaving (stage_after hw s before) x e)) (folded_from hw s e (before ++ x ∷ []) steps)

unfoldable pub folded_of : Hardware → Stage → List Step → EventNo → Sums
folded_of hw s steps e = folded_from hw s e [] steps

-- the original and its live copies, and the folded sums
unfoldable pub family_sums : Hardware → Stage → List Step → EventNo → Sums
family_sums hw s steps e =
    plus (plus_each (λ i. sums_of hw s steps i.id) (filter (is_of_family e) (all_instances (stage_after hw s steps)))) (folded_of hw s steps e)
