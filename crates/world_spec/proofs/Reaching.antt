-- A processor reaches at most one instance of a family.
use Rattle.std.specs.Prelude.{◌≡◌, ℕ, ◌+◌, true, false, Option, Some, None, slice_index_or}
use Rattle.std.proofs.{Common.{arith, sym, ap, ◌∙◌, inl, inr}, lemmas.Bool.{cases_Bool, false≢true, Decides.{nat_tests}}}
use Rattle.perf_base.specs.declared.{numbers.{CpuNo.{CpuNo}, Key.{Key}, TaskNo.{TaskNo}}, standing.Context.{Context}}
use Rattle.perf_base.specs.declared.standing.Context.TheVariants as context
use Rattle.stage_spec.specs.{Hardware.{Hardware}, Stage.{Stage, place_of, task_on, is_task}}
use Rattle.stage_laws.specs.Narrowing.{has_context}
use Rattle.world_spec.specs.{Value.{World, no_family, is_live, entry_at, instance_at}}
use Rattle.world_spec.{specs.{Kept.{post_at, is_original_in, is_of_task, IsKept}, Families.{OneReachedLaw}}, proofs.Keys.{key-is, once-true}}
use Rattle.world_spec.proofs.{AddedStage.{one-in_option}, Going.{all_three}, Coming.{number_true}}

-- two contexts of one kind on a processor are one
one-task : (o : Option TaskNo) (t u : TaskNo) → is_task o t ≡ true → is_task o u ≡ true → t.0 ≡ u.0
one-task None t u ht hu = absurd (false≢true ht)
one-task (Some x) t u ht hu = sym (number_true x.0 t.0 ht) ∙ number_true x.0 u.0 hu

one-place : (s : Stage) (cpu : CpuNo) (c d : Context) → has_context s cpu c ≡ true → has_context s cpu d ≡ true → is_of_task c ≡ is_of_task d → place_of c ≡ place_of d
one-place s cpu (context.Processor a) (context.Processor b) hc hd kinds = grind (arith, nat_tests, number_true)
one-place s cpu (context.Task t) (context.Task u) hc hd kinds = ap {B = ℕ} (λ n. 8 + n) (one-task (task_on s cpu) t u hc hd)
one-place s cpu (context.Processor a) (context.Task u) hc hd kinds = absurd (false≢true kinds)
one-place s cpu (context.Task t) (context.Processor b) hc hd kinds = absurd (false≢true (sym kinds))

-- an instance of a processor's context has no family in contexts of tasks
pub is-original : (w : World) (k : Key) → is_live w k ≡ true → (instance_at w k).copy ≡ false → is_original_in (post_at w) (instance_at w k).event.0 k ≡ true
is-original w k live first = grind (arith, nat_tests, all_three)

not-mixed : (hw : Hardware) (w : World) (j k : Key) → IsKept hw w → is_live w j ≡ true → is_live w k ≡ true → (instance_at w j).event.0 ≡ (instance_at w k).event.0
    → is_of_task (entry_at w j).context ≡ false → is_of_task (entry_at w k).context ≡ true → ⊥
not-mixed hw w j k h live_j live_k slot own other =
    let event : ℕ = (instance_at w k).event.0 in
    let first : (instance_at w j).copy ≡ false = grind (arith, nat_tests, false≢true) in
    let mine : is_original_in (post_at w) event j ≡ true = ap (λ n. is_original_in (post_at w) n j) (sym slot) ∙ is-original w j live_j first in
    let o : (i : Key) × (is_original_in (post_at w) event i ≡ true) × (is_of_task (entry_at w i).context ≡ true) = (elim (cases_Bool (instance_at w k).copy) [
      | inl copy ↦ h.apart.original k live_k copy
      | inr original ↦ (k, is-original w k live_k original, other)
    ]) in
    let same : j.0 ≡ o.0.0 = one-in_option (slice_index_or w.families event no_family).original j o.0
    (h.linked.originals j event ∙ once-true (is_original_in (post_at w) event j) mine)
    (h.linked.originals o.0 event ∙ once-true (is_original_in (post_at w) event o.0) o.1) in
    false≢true (sym own ∙ (ap (λ x. is_of_task (entry_at w x).context) (key-is j o.0 same) ∙ o.2))

pub one-reached : OneReachedLaw
one-reached hw w cpu j k h live_j live_k slot on_j on_k =
    let same : is_of_task (entry_at w j).context ≡ is_of_task (entry_at w k).context → j ≡ k = grind (arith, nat_tests, one-place) in
    grind (arith, nat_tests, same, not-mixed)
