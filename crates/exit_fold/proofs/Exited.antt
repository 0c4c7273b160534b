-- An exit after the copies were folded: the task has exited, its processor is idle, and other processors stand as they
-- stood.
use Rattle.std.specs.Prelude.{◌≡◌, ◌≢◌, ◌<◌, true, false, ◌&&◌, Some, None, slice_index_or}
use Rattle.std.proofs.{Common.{arith, refl, sym, ap, subst, ◌∙◌}, lemmas.Bool.{false≢true}}
use Rattle.std.proofs.lemmas.List.{get_or-set_other}
use Rattle.perf_base.specs.declared.{numbers.{CpuNo.{CpuNo}, TaskNo.{TaskNo}}, standing.Context.{Context}}
use Rattle.perf_base.specs.declared.standing.Context.TheVariants as context
use Rattle.stage_spec.specs.{declared.instance.TaskState.{TaskState}, Closing.{without}, Exits.{exited, exited_by}, Hardware.{Hardware}}
use Rattle.stage_spec.specs.Stage.{Stage, task_on, status_of, unknown_task, is_live as is_live_task, is_copy, set_running, set_status}
use Rattle.stage_spec.specs.declared.instance.TaskState.TheVariants as state
use Rattle.stage_laws.{specs.{Narrowing.{has_context}, Sound.{AreRunning}}, proofs.EachSettled.{briefs-of_passes}}
use Rattle.stage_laws.proofs.{Others.{ReachesSame, passes-same, task-changed, tasks-apart}, Tasks.{has-same, is_task-some}}
use Rattle.counter_match.specs.Seating.{empty_seating}
use Rattle.world_spec.specs.{Value.{World, is_live, entry_at, standing_at, is_key}, StageOf.{stage_of}, Kept.{post_at, IsKept}}
use Rattle.world_spec.{specs.{Changes.{place, end_task}, Rescheduled.{IsUntouched}}, proofs.{Moving.{leads-parts}, Standing.{left-untouched}}}
use Rattle.exit_fold.specs.Leaving.{is_of_task, IsFolded}
use Rattle.world_spec.proofs.Coming.{number_true}

there : (s : TaskState) → is_live_task s ≡ true → s ≡ state.Live
there state.Unknown h = absurd (false≢true h)
there state.Live h = refl
there state.Exited h = absurd (false≢true h)

pub still-live : (hw : Hardware) (v w x : World) (cpu : CpuNo) (task : TaskNo) → IsKept hw v → task_on (stage_of v) cpu ≡ Some task → IsFolded task v w → x ≡ place cpu None w
    → (status_of (stage_of x) task).state ≡ state.Live
still-live hw v w x cpu task h on f is =
    ap (λ (y : World). (slice_index_or y.quiet.tasks task.0 unknown_task).state) is
    ∙ (ap (λ q. (slice_index_or q.tasks task.0 unknown_task).state) f.quiet ∙ there (status_of (stage_of v) task).state (h.running.live cpu task on))

-- the stage then
abbrev exited_after : CpuNo → TaskNo → Stage → Stage
exited_after cpu task s = set_running cpu None (set_status task (record (status_of s task) { state = state.Exited }) s)

pub exit-stage : (v w x t : World) (cpu : CpuNo) (task : TaskNo) → task_on (stage_of v) cpu ≡ Some task → IsFolded task v w → x ≡ place cpu None w → t ≡ end_task task x → stage_of t ≡ exited cpu (stage_of v)
unfolding exited
exit-stage v w x t cpu task on f placed ended =
    ap stage_of ended ∙ (ap (λ (y : World). stage_of (end_task task y)) placed
    ∙ ((λ i. exited_after cpu task (f.stage i)) ∙ ap (λ o. exited_by cpu o (stage_of v)) (sym on)))

-- what is left in the contexts of another processor
elsewhere : (s : Stage) (cpu other : CpuNo) (task : TaskNo) (c : Context) → AreRunning s → task_on s cpu ≡ Some task → other.0 ≢ cpu.0 → has_context s other c ≡ true → is_of_task task c ≡ false
elsewhere s cpu other task (context.Processor own) running on apart has = refl
elsewhere s cpu other task (context.Task here) running on apart has = grind (arith, tasks-apart, is_task-some, number_true)

left-there : (hw : Hardware) (v w : World) (cpu other : CpuNo) (task : TaskNo) → IsKept hw v → task_on (stage_of v) cpu ≡ Some task → IsFolded task v w → other.0 < 8 → other.0 ≢ cpu.0
    → IsUntouched hw v (end_task task (place cpu None w)) other
left-there hw v w cpu other task h on f low apart =
    let x : World = end_task task (place cpu None w) in
    let r : ReachesSame (stage_of v) (stage_of w) other =
    subst (λ s. ReachesSame (stage_of v) s other) (sym f.stage) (task-changed task other (without is_copy) (stage_of v) h.shape.contexts (tasks-apart (stage_of v) cpu other task h.running apart on)) in
    let runs : task_on (stage_of x) other ≡ task_on (stage_of v) other = get_or-set_other w.quiet.running cpu.0 other.0 None None apart ∙ r.running in
    let reaches : ReachesSame (stage_of v) (stage_of x) other = record { running = runs; own = r.own; task = r.task } in
    left-untouched hw v x other low (record {
      briefs = briefs-of_passes hw other (stage_of v) (stage_of x) (passes-same (stage_of v) (stage_of x) other reaches);
      seats = ap (λ q. slice_index_or q.seats other.0 (empty_seating 0)) f.quiet;
      groups = λ k lead has.
          let live : is_live w k ≡ true = (leads-parts (is_live w k) (is_key k (entry_at w k).leader) lead).0 in
          let has_before : has_context (stage_of v) other (entry_at v k).context ≡ true = grind (arith, has-same) in
          let same : (post_at w k ≡ post_at v k) × (standing_at w k ≡ standing_at v k) = grind (arith, elsewhere) in
          (ap (λ p. p.live && is_key k p.leader) (sym same.0) ∙ lead, has_before, ap (λ p. p.id) same.0, same.1);
    })

pub others-stand : (hw : Hardware) (v w x t : World) (cpu other : CpuNo) (task : TaskNo) → IsKept hw v → task_on (stage_of v) cpu ≡ Some task → IsFolded task v w → x ≡ place cpu None w
    → t ≡ end_task task x → other.0 < 8 → other.0 ≢ cpu.0 → IsUntouched hw v t other
others-stand hw v w x t cpu other task h on f placed ended low apart =
    subst (λ (y : World). IsUntouched hw v y other) (sym (ended ∙ ap (end_task task) placed)) (left-there hw v w cpu other task h on f low apart)
