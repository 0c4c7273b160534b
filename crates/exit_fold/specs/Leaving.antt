-- inner
-- Which instances go when a task exits, and what stays then. After perf_event_exit_task_context and sync_child_event of
-- kernel/events/core.c.
use Rattle.std.specs.Prelude.{◌≡◌, ℕ, ◌==◌, Bool, true, false, not, ◌&&◌, List, ◌++◌, filter, Option, Some, None, slice_index_or}
use Rattle.perf_base.specs.declared.{numbers.{CpuNo.{CpuNo}, EventNo.{EventNo}, Key.{Key}, TaskNo.{TaskNo}}, reply.Sums.{Sums}}
use Rattle.perf_base.specs.declared.standing.Context.{Context}
use Rattle.perf_base.specs.declared.lines.CpuLine.TheVariants as cpu_line
use Rattle.perf_base.specs.declared.standing.Context.TheVariants as context
use Rattle.stage_spec.specs.{declared.instance.Instance.{Instance}, Closing.{without}, Families.{plus, plus_each, leaving_by}, Hardware.{Hardware}}
use Rattle.stage_spec.specs.{Shares.{no_sums}, Stage.{is_copy, task_on, change_context}}
use Rattle.world_spec.specs.{Value.{World, is_live, entry_at, instance_at, account_at, standing_at, family_of, leaders_of}, StageOf.{stage_of}}
use Rattle.world_spec.specs.{Kept.{post_at, plus_keys, family_sums, IsKept}, Adding.{folded_away}}

-- the context is that of a task
abbrev pub is_of_task : TaskNo → Context → Bool
is_of_task task (context.Processor cpu) = false
is_of_task task (context.Task other) = other.0 == task.0

-- an instance goes with the task that exits: a copy in its context; none goes where no task is on
abbrev pub leaves : World → Option TaskNo → Key → Bool
leaves w None k = false
leaves w (Some task) k = (instance_at w k).copy && is_of_task task (entry_at w k).context

-- the copies of an event that go, and what they have counted
abbrev pub leaving_copies : World → Option TaskNo → EventNo → List Key
leaving_copies w to e = filter (leaves w to) (family_of w e).copies

abbrev pub leaving_sums : World → Option TaskNo → EventNo → Sums
leaving_sums w to e = plus_keys (λ k. (account_at w k).sums) (leaving_copies w to e)

-- Those instances and no others are gone. Each that stays has what it had, is in the group that it was in, and its
-- group stands where it stood; each family has its other copies; and what went is in the folded sums.
pub record HaveGone (w after : World) (to : Option TaskNo) : Type 0 where
  pub live : (k : Key) → is_live after k ≡ (is_live w k && not (leaves w to k))
  pub instances : (k : Key) → is_live after k ≡ true → instance_at after k ≡ instance_at w k
  pub contexts : (k : Key) → is_live after k ≡ true → (entry_at after k).context ≡ (entry_at w k).context
  pub accounts : (k : Key) → is_live after k ≡ true → account_at after k ≡ account_at w k
  pub groups : (k : Key) → is_live after k ≡ true → post_at after k ≡ post_at w k
  pub standings : (k : Key) → is_live after k ≡ true → standing_at after k ≡ standing_at w k
  pub families : (e : EventNo) → family_of after e ≡ record (family_of w e) { copies = filter (λ k. not (leaves w to k)) (family_of w e).copies }
  pub folded : (e : EventNo) → slice_index_or after.folded e.0 no_sums ≡ plus (slice_index_or w.folded e.0 no_sums) (leaving_sums w to e)
  pub lost : after.lost ≡ w.lost
  pub hardware : after.hardware ≡ w.hardware

-- where the copies of a task are folded, and the task is still there
pub record IsFolded (task : TaskNo) (w after : World) : Type 0 where
  pub gone : HaveGone w after (Some task)
  pub stage : stage_of after ≡ change_context (context.Task task) (without is_copy) (stage_of w)
  pub sums : (slot : ℕ) → family_sums after slot ≡ family_sums w slot
  pub away : (k : Key) → is_of_task task (entry_at w k).context ≡ false → (post_at after k ≡ post_at w k) × (standing_at after k ≡ standing_at w k)
  pub leaders : (cpu : CpuNo) → leaders_of after (context.Processor cpu) ≡ leaders_of w (context.Processor cpu)
  pub quiet : after.quiet ≡ w.quiet

-- What an exit leaves: what a processor runs and whether tasks are there may change, too, and no processor's own list
-- of leaders, clock, seat, slot, ring or id.
pub record HasExited (w after : World) (to : Option TaskNo) : Type 0 where
  pub gone : HaveGone w after to
  pub leaders : (cpu : CpuNo) → leaders_of after (context.Processor cpu) ≡ leaders_of w (context.Processor cpu)
  pub quiet : after.quiet ≡ record w.quiet { tasks = after.quiet.tasks; running = after.quiet.running }

-- the leaders of a task's groups, the pinned ones first
abbrev pub leaders_in : World → TaskNo → List Key
leaders_in w task = (leaders_of w (context.Task task)).pinned ++ (leaders_of w (context.Task task)).flexible

-- a copy is folded into its original, and any other instance stays
abbrev pub fold_copy : Bool → Key → World → World
fold_copy true k w = folded_away k w
fold_copy false k w = w

-- The copies of an event that go with the task on a processor are those that the definitions take away by an exit:
-- whatever is summed up of them is the same.
abbrev pub LeavingLaw : Type 0
LeavingLaw = (hw : Hardware) (w : World) (cpu : CpuNo) (e : EventNo) (f : Instance → Sums) → IsKept hw w
    → plus_each f (leaving_by (stage_of w) cpu cpu_line.Exit e) ≡ plus_keys (λ k. f (instance_at w k)) (leaving_copies w (task_on (stage_of w) cpu) e)
