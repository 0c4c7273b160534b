-- What is on, what is ready and what an event has are each instance once.
use Rattle.std.specs.Prelude.{◌≡◌, ℕ, ◌+◌, ◌≤◌, Bool, false, not, ◌&&◌, cond, List, [], ◌∷◌, filter, find, count_by, Option, Some, None}
use Rattle.std.proofs.{Common.{arith, refl, sym, ap, ◌∙◌, inl, inr}, lemmas.{Bool.{cases_Bool, cases_eq, false≢true, eqb-true}, Option.{none-some}}}
use Rattle.std.proofs.lemmas.List.{get_or_past}
use Rattle.perf_base.specs.declared.numbers.{CpuNo.{CpuNo}, EventNo.{EventNo}, TaskNo.{TaskNo}}
use Rattle.perf_base.specs.declared.standing.Context.TheVariants as context
use Rattle.stage_spec.specs.{declared.instance.Instance.{Instance}, Hardware.{Hardware}}
use Rattle.stage_spec.specs.Stage.{Stage, lists_of, no_groups, all_instances, place_of, is_of_family, is_original, original_of, task_on}
use Rattle.stage_spec.specs.{Verdict.{task_lists, on_instances, reached}, Shares.{ready_instances}, Limits.{HasShape}}
use Rattle.stage_spec.proofs.{Each.{Each, weaker-Each}, Parts.{Each-from_All, none_passes-Each}, Present.{find-none}}
use Rattle.stage_laws.specs.{Sound.{IsNumbered, has_id}, OneByOne.{OnOnceLaw, ReadyOnceLaw, FamilyLaw, NoFamilyLaw}}
use Rattle.stage_laws.proofs.{Counts.{count-cons, count-filter, two_places}, Tasks.{some-same}, Others.{cpu-task_apart}}
use Rattle.stage_laws.proofs.{Placed.{HasOriginal, reached-weighs}, Totals.{total, one_if, as_number, count_by-is-total, sum_by-is-total}}
use Rattle.stage_laws.proofs.{Weights.{lists_weight, weight_in-le, weigh-is-count, no_groups-weigh}, BoundsReached.{on-le, ready-le}}
use Rattle.stage_laws.proofs.OneByOne.{pair-Each}

-- what a processor reaches
own_and_task : (hw : Hardware) (s : Stage) (cpu : CpuNo) (to : Option TaskNo) (id : ℕ) → HasShape hw s → IsNumbered s
    → lists_weight (one_if (has_id id)) (lists_of s (context.Processor cpu)) + lists_weight (one_if (has_id id)) (task_lists s to) ≤ 1
own_and_task hw s cpu None id shape numbered =
    let f : Instance → ℕ = one_if (has_id id) in
    omega (arith, no_groups-weigh f, weight_in-le f s (context.Processor cpu), weigh-is-count (has_id id) s, numbered.once id)
own_and_task hw s cpu (Some task) id shape numbered =
    let f : Instance → ℕ = one_if (has_id id) in
    let i : ℕ = place_of (context.Processor cpu) in
    elim (cases_eq i (8 + task.0)) [
      | inl same ↦ grind (arith, lists_weight, get_or_past, cpu-task_apart, same, no_groups-weigh, weight_in-le, weigh-is-count)
      | inr apart ↦
          omega (
            arith,
            two_places (lists_weight f) no_groups (no_groups-weigh f) s.contexts i (8 + task.0) apart,
            sum_by-is-total (lists_weight f) s.contexts,
            weigh-is-count (has_id id) s,
            numbered.once id,
          )
    ]

reached-once : (hw : Hardware) (s : Stage) (cpu : CpuNo) (id : ℕ) → HasShape hw s → IsNumbered s → total (one_if (has_id id)) (reached s cpu) ≤ 1
reached-once hw s cpu id shape numbered = omega (arith, reached-weighs (one_if (has_id id)) s cpu, own_and_task hw s cpu (task_on s cpu) id shape numbered)

pub on-once : OnOnceLaw
on-once hw s cpu id shape numbered =
    omega (arith, count_by-is-total (has_id id) (on_instances hw s cpu), on-le (one_if (has_id id)) hw s cpu, reached-once hw s cpu id shape numbered)

pub ready-once : ReadyOnceLaw
ready-once hw s cpu id shape numbered =
    omega (arith, count_by-is-total (has_id id) (ready_instances s cpu), ready-le (one_if (has_id id)) s cpu, reached-once hw s cpu id shape numbered)

-- the one that is found is all that there is
none-left : {X : Type 0} (p : X → Bool) (xs : List X) → count_by p xs ≡ 0 → filter p xs ≡ []
none-left p [] none = refl
none-left p (x ∷ xs) none = elim (cases_Bool (p x)) [
  | inl e ↦ absurd (omega (arith, none, count-cons p x xs, ap as_number e))
  | inr e ↦ rw e (none-left p xs (omega (arith, none, count-cons p x xs, ap as_number e)))
]

only_found : {X : Type 0} (p : X → Bool) (xs : List X) (x : X) → find p xs ≡ Some x → count_by p xs ≤ 1 → filter p xs ≡ x ∷ []
only_found p [] x e one = absurd (none-some x e)
only_found p (y ∷ ys) x e one = elim (cases_Bool (p y)) [
  | inl is ↦ grind (arith, some-same, is, none-left, count-cons, as_number)
  | inr other ↦
      let later : find p ys ≡ Some x = sym (ap (λ b. cond b (Some y) (find p ys)) other) ∙ e in
      rw other (only_found p ys x later (omega (arith, one, count-cons p y ys, ap as_number other)))
]

filter-both : {X : Type 0} (p q : X → Bool) (xs : List X) → filter q (filter p xs) ≡ filter (λ x. p x && q x) xs
filter-both p q [] = refl
filter-both p q (x ∷ xs) = grind (arith, filter-both p q xs)

pub family : FamilyLaw
family e s original numbered found = record {
  one_original = filter-both (is_of_family e) (λ i. not i.copy) (all_instances s) ∙ only_found (is_original e) (all_instances s) original found (numbered.one_original e);
  once = λ id. omega (arith, count-filter (has_id id) (is_of_family e) (all_instances s), numbered.once id);
}

-- an event without an original has no copies either
none-pass : {X : Type 0} (p : X → Bool) (xs : List X) → Each (λ x. p x ≡ false) xs → filter p xs ≡ []
unfolding Each
none-pass p [] none = refl
none-pass p (x ∷ xs) none = rw none.0 (none-pass p xs none.1)

not_of_family : (e : EventNo) (s : Stage) (i : Instance) → original_of s e ≡ None → is_original e i ≡ false
    → HasOriginal s i → is_of_family e i ≡ false
not_of_family e s i none other copied = elim (cases_Bool (is_of_family e i)) [
  | inr away ↦ away
  | inl member ↦ elim (cases_Bool i.copy) [
    | inl copy ↦
        let slot : i.event ≡ e = ap (λ n. record { 0 = n }) (eqb-true i.event.0 e.0 member) in
        absurd (none-some (copied copy).0 (sym none ∙ (ap (original_of s) (sym slot) ∙ (copied copy).1)))
    | inr original ↦ absurd (false≢true (sym other ∙ (rw (member, original) refl)))
  ]
]

pub no_family : NoFamilyLaw
no_family e s placed none =
    none-pass (is_of_family e) (all_instances s)
    (weaker-Each (λ i. (is_original e i ≡ false) × HasOriginal s i) (λ i. is_of_family e i ≡ false)
    (λ i h. not_of_family e s i none h.0 h.1) (all_instances s)
    (pair-Each (λ i. is_original e i ≡ false) (HasOriginal s) (all_instances s)
    (none_passes-Each (is_original e) (all_instances s) (find-none (is_original e) (all_instances s) none))
    (Each-from_All (HasOriginal s) (all_instances s) placed.of_original)))
