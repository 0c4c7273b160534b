-- A slot that has no original has no copy either, through each change of the stage.
use Rattle.std.specs.Prelude.{◌≡◌, ℕ, ◌<◌, ◌≤◌, Bool, true, false, not, ◌&&◌, length, cond, Option}
use Rattle.std.proofs.{Common.{refl, sym, ◌∙◌, arith, inl, inr}, lemmas.Bool.{cases_eq, eqb-true}}
use Rattle.perf_base.specs.{declared.{numbers.{CpuNo.{CpuNo}, EventNo.{EventNo}, TaskNo.{TaskNo}}, attr.Attr.{Attr}}, Contexts.{context_of}}
use Rattle.perf_base.specs.declared.standing.Context.TheVariants as context
use Rattle.stage_spec.specs.{declared.instance.Instance.{Instance}, Hardware.{Hardware}}
use Rattle.stage_spec.specs.Stage.{Stage, Lists, lists_of, groups_in, members, no_groups, place_of, is_original, is_of_family, change_each, task_on, all_instances}
use Rattle.stage_spec.specs.{Verdict.{task_lists}, Settle.{settle_all}, Opening.{opened}, Closing.{closed}, Rotation.{rotated}}
use Rattle.stage_spec.specs.{Forks.{forked}, Exits.{exited}, Switching.{switched}}
use Rattle.stage_laws.proofs.Totals.{total-none, one_if}
use Rattle.stage_laws.proofs.Weights.{weigh, lists_weight, lists-weigh, weigh-is-total, lists-same, weigh-same, change_each-keeps, settle_all-weighs, switched-weighs, rotated-weighs, if_stays, if_goes, closed-weighs, closed-le, exited-weighs, exited-le}
use Rattle.stage_laws.proofs.Gains.{groups_joined, opened-weighs, copied-weighs, inherited_weight-le, forked-weighs, forked-le}
use Rattle.stage_laws.proofs.Numbered.{task_lists-le}

abbrev pub IsFamilied : Stage → Type 0
IsFamilied s = (e : EventNo) → weigh (one_if (is_original e)) s ≡ 0 → weigh (one_if (is_of_family e)) s ≡ 0

familied-same : (s t : Stage) → ((e : EventNo) → weigh (one_if (is_original e)) t ≡ weigh (one_if (is_original e)) s)
    → ((e : EventNo) → weigh (one_if (is_of_family e)) t ≤ weigh (one_if (is_of_family e)) s) → IsFamilied s → IsFamilied t
familied-same s t originals families h e none = omega (arith, families e, h e (sym (originals e) ∙ none))

pub settle_all-familied : (hw : Hardware) (s : Stage) → IsFamilied s → IsFamilied (settle_all hw s)
settle_all-familied hw s h = grind (arith, familied-same, settle_all-weighs, one_if)

pub switched-familied : (cpu : CpuNo) (to : Option TaskNo) (s : Stage) → IsFamilied s → IsFamilied (switched cpu to s)
switched-familied cpu to s h = grind (arith, familied-same, switched-weighs, one_if)

pub rotated-familied : (hw : Hardware) (cpu : CpuNo) (s : Stage) → IsFamilied s → IsFamilied (rotated hw cpu s)
rotated-familied hw cpu s h = grind (arith, familied-same, rotated-weighs, one_if)

pub change_each-familied : (f : Instance → Instance) → ((i : Instance) → ((f i).event ≡ i.event) × ((f i).copy ≡ i.copy)) → (s : Stage) → IsFamilied s → IsFamilied (change_each f s)
change_each-familied f same s h = grind (arith, familied-same, change_each-keeps, one_if)

-- a weight of nothing
weigh-none : (f : Instance → ℕ) → ((i : Instance) → f i ≡ 0) → (s : Stage) → weigh f s ≡ 0
weigh-none f none s = weigh-same f (λ i. 0) none s ∙ (sym (weigh-is-total (λ i. 0) s) ∙ total-none (all_instances s))

lists-none : (f : Instance → ℕ) → ((i : Instance) → f i ≡ 0) → (l : Lists) → lists_weight f l ≡ 0
lists-none f none l = lists-same f (λ i. 0) none l ∙ (sym (lists-weigh (λ i. 0) l) ∙ total-none (members (groups_in l)))

-- a close
abbrev either_of : Bool → ℕ → ℕ → ℕ
either_of b m n = cond b m n

gone : (b : Bool) → either_of b 0 (either_of b 1 0) ≡ 0
gone true = refl
gone false = refl

stays_if : (goes here original : Bool) → (goes ≡ true → here ≡ true → ⊥) → either_of goes 0 (either_of (here && original) 1 0) ≡ either_of (here && original) 1 0
stays_if true true original h = absurd (h refl refl)
stays_if true false original h = refl
stays_if false here original h = refl

pub closed-familied : (c : EventNo) (s : Stage) → IsFamilied s → IsFamilied (closed c s)
closed-familied c s h e none = elim (cases_eq e.0 c.0) [
  | inl same ↦ grind (arith, closed-weighs, one_if, weigh-none, if_stays, same, gone)
  | inr apart ↦ grind (arith, weigh, if_stays, one_if, weigh-same, stays_if, apart, eqb-true, closed-le, closed-weighs)
]

-- an exit takes no original
no_original : (here copy : Bool) → either_of copy (either_of (here && not copy) 1 0) 0 ≡ 0
no_original here false = refl
no_original true true = refl
no_original false true = refl

pub exited-familied : (cpu : CpuNo) (s : Stage) → IsFamilied s → IsFamilied (exited cpu s)
exited-familied cpu s h = grind (arith, familied-same, exited-weighs, one_if, lists-none, if_goes, no_original, exited-le)

-- an open brings an original, as often as it brings one of the family
as_original : (b : Bool) → either_of (b && true) 1 0 ≡ either_of b 1 0
as_original true = refl
as_original false = refl

pub opened-familied : (s : Stage) (slot : EventNo) (a : Attr) (leader : Option EventNo) → place_of (context_of a) < length s.contexts → IsFamilied s → IsFamilied (opened s slot a leader)
opened-familied s slot a leader place h e none = grind (arith, groups_joined, one_if, as_original, weigh, opened-weighs)

-- a fork brings copies of what is there
pub forked-familied : (cpu : CpuNo) (child : TaskNo) (s : Stage) → place_of (context.Task child) < length s.contexts → lists_of s (context.Task child) ≡ no_groups
    → IsFamilied s → IsFamilied (forked cpu child s)
forked-familied cpu child s place empty h e none =
    let parent : Lists = task_lists s (task_on s cpu) in
    let before : weigh (one_if (is_of_family e)) s ≡ 0 = h e (omega (arith, none, forked-weighs (one_if (is_original e)) cpu child s place empty)) in
    omega (
      arith,
      before,
      forked-le (one_if (is_of_family e)) cpu child s,
      copied-weighs (one_if (is_of_family e)) (one_if (is_of_family e)) s (λ id i. refl) parent,
      inherited_weight-le (one_if (is_of_family e)) parent,
      task_lists-le (one_if (is_of_family e)) s (task_on s cpu),
    )
