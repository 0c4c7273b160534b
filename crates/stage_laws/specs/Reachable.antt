-- inner
-- The laws of sound stages: the first stage is sound, and every line leaves it so. This project's own profile.
use Rattle.std.specs.Prelude.{◌≤◌, All, List, not, count_by}
use Rattle.perf_base.specs.declared.numbers.TaskNo.{TaskNo}
use Rattle.stage_spec.specs.{Hardware.{Hardware}, Stage.{Stage, all_instances, first_stage}, History.{Step, stage_step, stage_after}}
use Rattle.stage_spec.specs.Limits.{Limits, IsMachine, IsWithin, AreTaskNumbers}
use Rattle.stage_laws.specs.Sound.{IsNumbered, IsSound}

abbrev pub FirstSoundLaw : Type 0
FirstSoundLaw = (l : Limits) (hw : Hardware) (declared : List TaskNo) → IsMachine l hw → AreTaskNumbers declared → IsSound hw (first_stage l.cpus declared)

-- after a step, refused or not
abbrev pub StepSoundLaw : Type 0
StepSoundLaw = (l : Limits) (hw : Hardware) (s : Stage) (x : Step) → IsMachine l hw → IsWithin l x → IsSound hw s → IsSound hw (stage_step hw s x)

-- and so after any steps
abbrev pub ReachedSoundLaw : Type 0
ReachedSoundLaw = (l : Limits) (hw : Hardware) (declared : List TaskNo) (steps : List Step) → IsMachine l hw → AreTaskNumbers declared → All (IsWithin l) steps
    → IsSound hw (stage_after hw (first_stage l.cpus declared) steps)

-- at most 256 originals are open: one in each slot
abbrev pub FewOriginalsLaw : Type 0
FewOriginalsLaw = (s : Stage) → IsNumbered s → count_by (λ i. not i.copy) (all_instances s) ≤ 256
