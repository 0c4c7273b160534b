-- A world in which a processor runs a given task, every task is live, and no other processor runs one, is kept. So what
-- holds of a processor's brief holds of it with the groups of any task.
use Rattle.std.specs.Prelude.{◌≡◌, ℕ, zero, suc, ◌<◌, ◌≤◌, Bool, true, false, All, List, [], ◌∷◌, length, map, Option, Some, None, slice_index_or, slice_set}
use Rattle.std.proofs.{Common.{arith, refl, sym, ap, subst, ◌∙◌}, lemmas.{Option.{none-some}}}
use Rattle.std.proofs.lemmas.List.{get_or-map, get_or-set_same, get_or-set_other, length-map, length-set}
use Rattle.perf_base.specs.declared.numbers.{CpuNo.{CpuNo}, Key.{Key}, TaskNo.{TaskNo}}
use Rattle.perf_base.specs.declared.standing.Context.TheVariants as context
use Rattle.stage_spec.specs.{declared.instance.TaskStatus.{TaskStatus}, Hardware.{counters_of}, Stage.{task_on, is_live, unknown_task}}
use Rattle.stage_spec.specs.declared.instance.TaskState.TheVariants as task_state
use Rattle.stage_laws.specs.Briefs.{GroupBrief}
use Rattle.world_spec.specs.{Copying.{leaders_in}, Kept.{HaveTotals, IsKept}, Listings.{task_leaders}, StageOf.{stage_of}, Value.{World, leaders_of}}
use Rattle.world_spec.proofs.GoneStage.{AreLeading}
use Rattle.cpu_sched.{specs.{After.{brief_with}, Briefs.{briefs_at, IsGroupBrief, IsBrief}}, proofs.Bounded.{pass-few, present-sound}}
use Rattle.cpu_sched.proofs.Passing.{pass-leads}

abbrev nobody : List (Option TaskNo) → List (Option TaskNo)
nobody running = map (λ (r : Option TaskNo). None) running

abbrev all_live : List TaskStatus → List TaskStatus
all_live tasks = map (λ (t : TaskStatus). record t { state = task_state.Live }) tasks

abbrev pub alone : World → CpuNo → Option TaskNo → World
alone w cpu task = record w { quiet = record w.quiet { running = slice_set (nobody w.quiet.running) cpu.0 task; tasks = all_live w.quiet.tasks } }

nobody-there : (running : List (Option TaskNo)) (i : ℕ) → slice_index_or (nobody running) i None ≡ None
nobody-there [] i = refl
nobody-there (r ∷ running) zero = refl
nobody-there (r ∷ running) (suc i) = nobody-there running i

nobody-size : (running : List (Option TaskNo)) → length (nobody running) ≡ length running
nobody-size [] = refl
nobody-size (r ∷ running) = omega (arith, nobody-size running)

pub on-alone : (w : World) (cpu : CpuNo) (task : Option TaskNo) → cpu.0 < length w.quiet.running → task_on (stage_of (alone w cpu task)) cpu ≡ task
on-alone w cpu task low = get_or-set_same (nobody w.quiet.running) cpu.0 task None (omega (arith, low, nobody-size w.quiet.running))

-- a task runs on that processor alone
where-on : (w : World) (cpu other : CpuNo) (task : Option TaskNo) (t : TaskNo) → task_on (stage_of (alone w cpu task)) other ≡ Some t → other.0 ≡ cpu.0
where-on w cpu other task t on = grind (arith, none-some, get_or-set_other, nobody-there)

task-is : (w : World) (cpu other : CpuNo) (task : Option TaskNo) (t : TaskNo) → cpu.0 < length w.quiet.running → task_on (stage_of (alone w cpu task)) other ≡ Some t → task ≡ Some t
task-is w cpu other task t low on = grind (arith, on-alone, where-on)

pub alone-kept : (w : World) (cpu : CpuNo) (task : Option TaskNo) → IsKept w.hardware w → cpu.0 < length w.quiet.running → ((t : TaskNo) → task ≡ Some t → t.0 < 64) → IsKept w.hardware (alone w cpu task)
alone-kept w cpu task h low numbers =
    let size : length (slice_set (nobody w.quiet.running) cpu.0 task) ≡ length w.quiet.running = length-set (nobody w.quiet.running) cpu.0 task ∙ nobody-size w.quiet.running in
    let live : TaskStatus → TaskStatus = λ t. record t { state = task_state.Live } in
    let tasks : length (all_live w.quiet.tasks) ≡ length w.quiet.tasks = length-map w.quiet.tasks live in
    record {
      tables = record {
        accounts = h.tables.accounts;
        standings = h.tables.standings;
        families = h.tables.families;
        folded = h.tables.folded;
        lost = h.tables.lost;
        clocks = h.tables.clocks ∙ sym size;
        totals = subst (λ (n : ℕ). HaveTotals n w.quiet.totals) (sym size) h.tables.totals;
        seats = h.tables.seats ∙ sym size;
      };
      shape = record { running = size ∙ h.shape.running; tasks = tasks ∙ h.shape.tasks; contexts = h.shape.contexts };
      running = record {
        live = λ other t on.
            let small : t.0 < length w.quiet.tasks = omega (arith, numbers t (task-is w cpu other task t low on), h.shape.tasks) in
            ap (λ s. is_live s.state) (get_or-map live w.quiet.tasks t.0 unknown_task unknown_task small);
        once = λ one other t on on_other. where-on w cpu one task t on ∙ sym (where-on w cpu other task t on_other);
      };
      linked = h.linked;
      copies = h.copies;
      grouped = h.grouped;
      numbered = h.numbered;
      apart = h.apart;
      fitting = h.fitting;
      lawful = record { errors = h.lawful.errors; samples = h.lawful.samples; kinds = h.lawful.kinds; used = h.lawful.used; placed = h.lawful.placed };
      seated = h.seated;
      small = record {
        counts = h.small.counts;
        times = h.small.times;
        ran = h.small.ran;
        folded_ran = h.small.folded_ran;
        clocks = h.small.clocks;
        totals = h.small.totals;
        lost = h.small.lost;
        ids = h.small.ids;
      };
    }

-- the leaders of a task, and its groups in a brief
pub task-few : (w : World) (cpu : CpuNo) (task : Option TaskNo) (pinned : Bool) → IsKept w.hardware w → cpu.0 < length w.quiet.running → ((t : TaskNo) → task ≡ Some t → t.0 < 64)
    → length (leaders_in pinned (task_leaders w task)) ≤ 256
task-few w cpu task true h low numbers =
    subst (λ o. length (task_leaders w o).pinned ≤ 256) (on-alone w cpu task low) (pass-few (alone w cpu task) cpu 1 (alone-kept w cpu task h low numbers))
task-few w cpu task false h low numbers =
    subst (λ o. length (task_leaders w o).flexible ≤ 256) (on-alone w cpu task low) (pass-few (alone w cpu task) cpu 3 (alone-kept w cpu task h low numbers))

pub task-leads : (w : World) (cpu : CpuNo) (task : Option TaskNo) (pinned : Bool) → IsKept w.hardware w → cpu.0 < length w.quiet.running → ((t : TaskNo) → task ≡ Some t → t.0 < 64)
    → AreLeading w (leaders_in pinned (task_leaders w task))
task-leads w cpu task true h low numbers =
    subst (λ o. AreLeading w (task_leaders w o).pinned) (on-alone w cpu task low) (pass-leads w.hardware (alone w cpu task) cpu 1 (alone-kept w cpu task h low numbers))
task-leads w cpu task false h low numbers =
    subst (λ o. AreLeading w (task_leaders w o).flexible) (on-alone w cpu task low) (pass-leads w.hardware (alone w cpu task) cpu 3 (alone-kept w cpu task h low numbers))

pub with-sound : (w : World) (cpu : CpuNo) (task : Option TaskNo) → IsKept w.hardware w → cpu.0 < length w.quiet.running → ((t : TaskNo) → task ≡ Some t → t.0 < 64)
    → 0 < counters_of w.hardware cpu → counters_of w.hardware cpu ≤ 16
    → All (IsGroupBrief (counters_of w.hardware cpu)) (briefs_at w cpu (leaders_of w (context.Processor cpu)).pinned)
    → All (IsGroupBrief (counters_of w.hardware cpu)) (briefs_at w cpu (task_leaders w task).pinned)
    → All (IsGroupBrief (counters_of w.hardware cpu)) (briefs_at w cpu (leaders_of w (context.Processor cpu)).flexible)
    → All (IsGroupBrief (counters_of w.hardware cpu)) (briefs_at w cpu (task_leaders w task).flexible) → IsBrief (brief_with w cpu task)
with-sound w cpu task h low numbers some most a b c d =
    let on : task_on (stage_of (alone w cpu task)) cpu ≡ task = on-alone w cpu task low in
    let P : GroupBrief Key → Type 0 = IsGroupBrief (counters_of w.hardware cpu) in
    subst (λ o. IsBrief (brief_with w cpu o)) on (present-sound (alone w cpu task) cpu (alone-kept w cpu task h low numbers) some most a
    (subst (λ o. All P (briefs_at w cpu (task_leaders w o).pinned)) (sym on) b) c (subst (λ o. All P (briefs_at w cpu (task_leaders w o).flexible)) (sym on) d))
