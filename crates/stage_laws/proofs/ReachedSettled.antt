-- Every stage that lines lead to is settled.
use Rattle.std.specs.Prelude.{◌≡◌, ℕ, All, List, [], ◌∷◌, Option, Some, None}
use Rattle.std.proofs.{Common.{refl, ap, ◌∙◌}}
use Rattle.std.proofs.lemmas.{List.Elements.{All-head, All-tail}}
use Rattle.perf_base.specs.declared.{numbers.{CpuNo.{CpuNo}, TaskNo.{TaskNo}}, standing.Context.{Context}}
use Rattle.perf_base.specs.declared.standing.Context.TheVariants as context
use Rattle.stage_spec.specs.{Hardware.{Hardware}, Stage.{Stage, lists_of, no_groups, place_of, task_on, first_stage}, Verdict.{Judged}}
use Rattle.stage_spec.specs.{Settle.{settle, settle_lists, settle_task, own_verdicts, IsSettled}, History.{Step, stage_step, stage_after}}
use Rattle.stage_spec.{specs.Limits.{Limits, IsMachine, IsWithin}, proofs.Settled.{change_context-none, no_groups-settled}}
use Rattle.stage_laws.{specs.{Sound.{IsSound}, Narrowing.{AreSettled, ReachedSettledLaw}}, proofs.{Sound.{first_sound, step_sound}, Narrow.{narrows}}}
use Rattle.stage_laws.proofs.Placed.{nowhere}

-- a stage without groups is settled
abbrev IsEmpty : Stage → Type 0
IsEmpty s = (c : Context) → lists_of s c ≡ no_groups

empty-context : (hw : Hardware) (cpu : CpuNo) (c : Context) (s : Stage) → IsEmpty s → (js : List Judged) → settle_lists hw cpu js (lists_of s c) ≡ lists_of s c
empty-context hw cpu c s h js = rw (h c) (no_groups-settled hw cpu js)

empty-task : (hw : Hardware) (cpu : CpuNo) (to : Option TaskNo) (s : Stage) → IsEmpty s → (js : List Judged) → settle_task hw cpu js to s ≡ s
empty-task hw cpu None s h js = refl
empty-task hw cpu (Some task) s h js = change_context-none (context.Task task) (settle_lists hw cpu js) s (empty-context hw cpu (context.Task task) s h js)

empty-settled : (hw : Hardware) (cpu : CpuNo) (s : Stage) → IsEmpty s → IsSettled hw cpu s
unfolding settle
empty-settled hw cpu s h =
    ap (settle_task hw cpu (own_verdicts hw s cpu) (task_on s cpu)) (change_context-none (context.Processor cpu) (settle_lists hw cpu []) s (empty-context hw cpu (context.Processor cpu) s h []))
    ∙ empty-task hw cpu (task_on s cpu) s h (own_verdicts hw s cpu)

first-empty : (cpus : ℕ) (declared : List TaskNo) → IsEmpty (first_stage cpus declared)
unfolding first_stage
first-empty cpus declared c = nowhere 72 (place_of c)

-- and so on, step by step
after-settled : (l : Limits) (hw : Hardware) (s : Stage) (steps : List Step) → IsMachine l hw → IsSound hw s → AreSettled hw s → All (IsWithin l) steps → AreSettled hw (stage_after hw s steps)
unfolding stage_after
after-settled l hw s [] machine sound settled within = settled
after-settled l hw s (x ∷ steps) machine sound settled within =
    let first : IsWithin l x = All-head (IsWithin l) x steps within in
    after-settled l hw (stage_step hw s x) steps machine (step_sound l hw s x machine first sound) (narrows l hw s x machine first sound settled).settled (All-tail (IsWithin l) x steps within)

pub reached_settled : ReachedSettledLaw
reached_settled l hw declared steps machine numbers within =
    after-settled l hw (first_stage l.cpus declared) steps machine (first_sound l hw declared machine numbers)
    (λ cpu low. empty-settled hw cpu (first_stage l.cpus declared) (first-empty l.cpus declared)) within
