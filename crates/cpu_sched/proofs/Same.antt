-- When two events are equal, and two lists of groups.
use Rattle.std.specs.{Prelude.{◌≡◌, ℕ, suc, ◌+◌, ◌<◌, ◌==◌, ◌&&◌, true, List, [], ◌∷◌, ◌++◌, length, map, take, slice_index_or}, Bool.{Decides}}
use Rattle.std.proofs.{Common.{arith, sym, ap, subst, ◌∙◌}, Math.Seq.{get_or-append_seam, take-suc}}
use Rattle.std.proofs.lemmas.List.{get_or-map, length-map, length-take, map-append}
use Rattle.perf_base.specs.declared.numbers.{EventNo.{EventNo}, Key.{Key}}
use Rattle.stage_laws.specs.Briefs.{GroupBrief}
use Rattle.world_spec.proofs.Moving.{leads-parts}
use Rattle.cpu_sched.specs.{declared.group_brief.GroupBrief.GroupBrief as Stored, Briefs.{seen}}
use Rattle.world_spec.proofs.Tables.{same_number}
use Rattle.world_spec.proofs.Coming.{number_true}

pub event-decides : (a b : EventNo × ℕ) → Decides (a.0.0 == b.0.0 && a.1 == b.1) (a ≡ b)
event-decides a b = (
  λ h.
      let parts : ((a.0.0 == b.0.0) ≡ true) × ((a.1 == b.1) ≡ true) = leads-parts (a.0.0 == b.0.0) (a.1 == b.1) h in
      λ i. (record { 0 = number_true a.0.0 b.0.0 parts.0 i }, number_true a.1 b.1 parts.1 i),
  λ e. subst (λ c. (a.0.0 == c.0.0 && a.1 == c.1) ≡ true) e (λ i. same_number a.0.0 a.0.0 (λ j. a.0.0) i && same_number a.1 a.1 (λ j. a.1) i),
)

-- equal lists are equal at each place, and lists that are equal up to a place and there are so up to the next
pub at-place : (one other : List Stored) (i : ℕ) (x y : Stored) → i < length one → i < length other → map seen one ≡ map seen other → seen (slice_index_or one i x) ≡ seen (slice_index_or other i y)
at-place one other i x y low low_other e =
    sym (get_or-map seen one i x (seen x) low) ∙ (ap (λ l. slice_index_or l i (seen x)) e ∙ get_or-map seen other i y (seen x) low_other)

next-seen : (groups : List Stored) (i : ℕ) (x : Stored) → i < length groups → map seen (take (i + 1) groups) ≡ map seen (take i groups) ++ seen (slice_index_or groups i x) ∷ []
next-seen groups i x low =
    let one : i + 1 ≡ suc i = omega arith in
    ap (map seen) (ap (λ n. take n groups) one ∙ take-suc groups i x low) ∙ map-append seen (take i groups) (slice_index_or groups i x ∷ [])

pub same-next : (one other : List Stored) (i : ℕ) (x y : Stored) → i < length one → i < length other → map seen (take i one) ≡ map seen (take i other)
    → seen (slice_index_or one i x) ≡ seen (slice_index_or other i y) → map seen (take (i + 1) one) ≡ map seen (take (i + 1) other)
same-next one other i x y low low_other before here =
    next-seen one i x low ∙ ((λ j. before j ++ here j ∷ []) ∙ sym (next-seen other i y low_other))

-- What stands behind the groups that were met is the next of them.
pub next-met : (groups : List Stored) (n : ℕ) (x : Stored) (b : GroupBrief Key) (rest : List (GroupBrief Key)) → n < length groups → map seen groups ≡ map seen (take n groups) ++ (b ∷ rest)
    → seen (slice_index_or groups n x) ≡ b
next-met groups n x b rest low e =
    let front : List (GroupBrief Key) = map seen (take n groups) in
    let size : length front ≡ n = omega (arith, length-map (take n groups) seen, length-take n groups, low) in
    sym (get_or-map seen groups n x (seen x) low)
    ∙ (ap (λ l. slice_index_or l n (seen x)) e
    ∙ (ap (λ m. slice_index_or (front ++ (b ∷ rest)) m (seen x)) (sym size) ∙ get_or-append_seam front b rest (seen x)))
