-- The copies that go are the stage's.
use Rattle.std.specs.Prelude.{◌≡◌, ◌+◌, ◌<◌, Bool, true, false, ◌&&◌, cond, map, filter, Option, Some, None}
use Rattle.std.proofs.Common.{refl, sym, ap, ◌∙◌}
use Rattle.perf_base.specs.declared.{numbers.{CpuNo.{CpuNo}, EventNo.{EventNo}, Key.{Key}, TaskNo.{TaskNo}}, reply.Sums.{Sums}}
use Rattle.perf_base.specs.declared.standing.Context.TheVariants as context
use Rattle.stage_spec.specs.{declared.instance.Instance.{Instance}, Families.{plus_each}, Hardware.{Hardware}}
use Rattle.stage_spec.specs.{Stage.{members, groups_in, is_of_family, task_on}, Verdict.{task_lists}}
use Rattle.stage_laws.proofs.Images.{filter-map}
use Rattle.world_spec.specs.{Value.{World, is_live, entry_at, instance_at, family_of}, StageOf.{stage_of}, Kept.{once_if, plus_keys, IsKept}}
use Rattle.world_spec.{specs.Listings.{keys_in}, proofs.{Counting.{times-filter, AreSameKeys}, Listings.{context-is, keys-at}, Placing.{task-low}}}
use Rattle.exit_fold.{specs.Leaving.{is_of_task, leaving_copies, LeavingLaw}, proofs.Contexts.{by-place}}
use Rattle.exit_fold.proofs.Copies.{leaving-times}
use Rattle.world_spec.proofs.Along.{filter-no}
use Rattle.world_spec.proofs.Families.{same-sums, each-by_keys}

-- where no task is on, and where one is
same-one : (live family copy of : Bool) → cond (family && copy) (once_if (live && of)) 0 ≡ once_if (live && ((copy && of) && family))
same-one true true true true = refl
same-one true true true false = refl
same-one true true false of = refl
same-one true false true true = refl
same-one true false true false = refl
same-one true false false of = refl
same-one false true true of = refl
same-one false true false of = refl
same-one false false copy of = refl

-- the keys of an event's copies in a context
abbrev pub of_event : World → EventNo → Key → Bool
of_event w e k = is_of_family e (instance_at w k) && (instance_at w k).copy

pub same-keys : (hw : Hardware) (w : World) (task : TaskNo) (e : EventNo) → IsKept hw w → task.0 < 64 → AreSameKeys (filter (of_event w e) (keys_in w (context.Task task))) (leaving_copies w (Some task) e)
same-keys hw w task e h low k =
    times-filter k (of_event w e) (keys_in w (context.Task task))
    ∙ (ap (λ n. cond (of_event w e k) n 0) (keys-at hw w h k (8 + task.0))
    ∙ (ap (λ b. cond (of_event w e k) (once_if (is_live w k && b)) 0) (sym (by-place task (entry_at w k).context low))
    ∙ (same-one (is_live w k) (is_of_family e (instance_at w k)) (instance_at w k).copy (is_of_task task (entry_at w k).context)
    ∙ sym (leaving-times hw w task e h k))))

pub leaving-mapped : (hw : Hardware) (w : World) (task : TaskNo) (e : EventNo) → IsKept hw w
    → filter (λ i. is_of_family e i && i.copy) (members (groups_in (task_lists (stage_of w) (Some task)))) ≡ map (instance_at w) (filter (of_event w e) (keys_in w (context.Task task)))
leaving-mapped hw w task e h =
    ap (filter (λ i. is_of_family e i && i.copy)) (context-is hw w (context.Task task) h)
    ∙ filter-map (λ i. is_of_family e i && i.copy) (of_event w e) (instance_at w) (λ k. refl) (keys_in w (context.Task task))

leaving-by : (hw : Hardware) (w : World) (cpu : CpuNo) (e : EventNo) (f : Instance → Sums) (o : Option TaskNo) → IsKept hw w → task_on (stage_of w) cpu ≡ o
    → plus_each f (filter (λ i. is_of_family e i && i.copy) (members (groups_in (task_lists (stage_of w) o)))) ≡ plus_keys (λ k. f (instance_at w k)) (leaving_copies w o e)
leaving-by hw w cpu e f None h on = ap (plus_keys (λ k. f (instance_at w k))) (sym (filter-no (family_of w e).copies))
leaving-by hw w cpu e f (Some task) h on =
    ap (plus_each f) (leaving-mapped hw w task e h)
    ∙ (each-by_keys f w (filter (of_event w e) (keys_in w (context.Task task)))
    ∙ same-sums (λ k. f (instance_at w k)) (filter (of_event w e) (keys_in w (context.Task task))) (leaving_copies w (Some task) e) (same-keys hw w task e h (task-low hw w cpu task h on)))

pub leaving-is : LeavingLaw
leaving-is hw w cpu e f h = leaving-by hw w cpu e f (task_on (stage_of w) cpu) h refl
