-- Tasks that are placed, that come and that exit keep a world.
use Rattle.std.{specs.Prelude.{◌≡◌, ◌<◌, length, Option, Some, None, slice_index_or, slice_set}, proofs.Common.{arith, refl, sym, ap, ◌∙◌, inl, inr}}
use Rattle.std.proofs.lemmas.{Bool.{cases_eq, cases_lt, false≢true}, List.{length-set, get_or_past}, Option.{none-some}}
use Rattle.perf_base.specs.declared.numbers.{CpuNo.{CpuNo}, TaskNo.{TaskNo}}
use Rattle.stage_spec.specs.{declared.instance.TaskStatus.{TaskStatus}, Hardware.{Hardware}}
use Rattle.stage_spec.specs.Stage.{Stage, task_on, status_of, is_live, set_running, set_status, fresh_task, unknown_task}
use Rattle.stage_spec.specs.declared.instance.TaskState.TheVariants as state
use Rattle.stage_laws.specs.Sound.{AreRunning}
use Rattle.stage_laws.proofs.Tasks.{some-same, given-AreRunning, status-AreRunning, state-kept, status_of-other, task_numbered}
use Rattle.world_spec.specs.{Value.{World}, StageOf.{stage_of}, Kept.{IsKept}, Changes.{with_running, with_status}}
use Rattle.world_spec.{specs.Laws.{IsFree, PlaceLaw, PlaceKeptLaw, TaskLaw, TaskKeptLaw, EndLaw, EndKeptLaw}, proofs.Keeping.{quiet-kept}}

-- the task on a processor has a number
pub task-low : (hw : Hardware) (w : World) (cpu : CpuNo) (task : TaskNo) → IsKept hw w → task_on (stage_of w) cpu ≡ Some task → task.0 < 64
task-low hw w cpu task h on = elim (cases_lt task.0 64) [
  | inl low ↦ low
  | inr past ↦
      let unknown : status_of (stage_of w) task ≡ unknown_task = get_or_past w.quiet.tasks task.0 unknown_task (omega (arith, past, h.shape.tasks)) in
      absurd (false≢true (ap (λ s. is_live s.state) (sym unknown) ∙ h.running.live cpu task on))
]

pub place-stage : PlaceLaw
place-stage w cpu None = refl
place-stage w cpu (Some task) = refl

running-kept : (hw : Hardware) (w : World) (cpu : CpuNo) (to : Option TaskNo) → AreRunning (set_running cpu to (stage_of w)) → IsKept hw w → IsKept hw (with_running cpu to w)
running-kept hw w cpu to running h =
    let size : length (slice_set w.quiet.running cpu.0 to) ≡ length w.quiet.running = length-set w.quiet.running cpu.0 to in
    quiet-kept hw w (record w.quiet { running = slice_set w.quiet.running cpu.0 to }) refl refl
    (record { running = length-set w.quiet.running cpu.0 to ∙ h.shape.running; tasks = h.shape.tasks; contexts = h.shape.contexts })
    (record { live = running.live; once = running.once }) h.small.clocks (h.tables.clocks ∙ sym size) (h.tables.seats ∙ sym size) h.seated
    (record { size = h.tables.totals.size ∙ sym size; user = h.tables.totals.user; kernel = h.tables.totals.kernel }) h.small.totals h

status-kept : (hw : Hardware) (w : World) (task : TaskNo) (f : TaskStatus → TaskStatus) → AreRunning (set_status task (f (status_of (stage_of w) task)) (stage_of w))
    → IsKept hw w → IsKept hw (with_status task f w)
status-kept hw w task f running h =
    let status : TaskStatus = f (slice_index_or w.quiet.tasks task.0 unknown_task) in
    quiet-kept hw w (record w.quiet { tasks = slice_set w.quiet.tasks task.0 status }) refl refl
    (record { running = h.shape.running; tasks = length-set w.quiet.tasks task.0 status ∙ h.shape.tasks; contexts = h.shape.contexts })
    (record { live = running.live; once = running.once }) h.small.clocks h.tables.clocks h.tables.seats h.seated
    h.tables.totals h.small.totals h

pub place-kept : PlaceKeptLaw
place-kept hw w cpu None low free h =
    running-kept hw w cpu None (given-AreRunning (stage_of w) cpu None low h.running (λ task e. absurd (none-some task e)) (λ task other e on. absurd (none-some task e))) h
place-kept hw w cpu (Some task) low free h =
    let s : Stage = stage_of w in
    let is : IsFree w cpu task = free task refl in
    let on : AreRunning (set_running cpu (Some task) s) = given-AreRunning s cpu (Some task) low h.running
    (λ other e. ap (λ o. is_live (status_of s o).state) (sym (some-same task other e)) ∙ ap is_live is.live)
    (λ other c e there. is.on_no_other c (there ∙ sym e)) in
    let t : World = with_running cpu (Some task) w in
    let kept : IsKept hw t = running-kept hw w cpu (Some task) on h in
    status-kept hw t task (λ x. record x { last = Some cpu })
    (status-AreRunning (stage_of t) task (record (status_of (stage_of t) task) { last = Some cpu }) kept.running
    (λ c other there. ap is_live (state-kept (stage_of t) task other (record (status_of (stage_of t) task) { last = Some cpu }) refl) ∙ kept.running.live c other there)) kept

-- a status of a task that no processor runs
elsewhere-kept : (hw : Hardware) (w : World) (task : TaskNo) (f : TaskStatus → TaskStatus) → ((cpu : CpuNo) → task_on (stage_of w) cpu ≡ Some task → ⊥)
    → IsKept hw w → IsKept hw (with_status task f w)
elsewhere-kept hw w task f off h =
    let s : Stage = stage_of w in
    status-kept hw w task f (status-AreRunning s task (f (status_of s task)) h.running (λ c other on. elim (cases_eq other.0 task.0) [
      | inl same ↦ absurd (off c (on ∙ ap (λ n. Some (task_numbered n)) same))
      | inr apart ↦ ap (λ t. is_live t.state) (status_of-other s task other (f (status_of s task)) apart) ∙ h.running.live c other on
    ])) h

pub task-stage : TaskLaw
task-stage w task = refl

pub task-kept : TaskKeptLaw
task-kept hw w task unknown h =
    elsewhere-kept hw w task (λ t. fresh_task) (λ cpu on. absurd (false≢true (sym (ap is_live unknown) ∙ h.running.live cpu task on))) h

pub end-stage : EndLaw
end-stage w task = refl

pub end-kept : EndKeptLaw
end-kept hw w task off h = elsewhere-kept hw w task (λ t. record t { state = state.Exited }) off h
