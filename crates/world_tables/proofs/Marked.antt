-- Marks that come one by one, and that there is room for them.
use Rattle.std.specs.Prelude.{◌≡◌, ◌≢◌, ℕ, ◌+◌, ◌<◌, ◌≤◌, ◌==◌, true, false, ◌||◌, eqb, All, List, [], ◌∷◌, ◌++◌, length, map, slice_index_or}
use Rattle.std.{specs.List.{list_any}, proofs.Common.{arith, refl, sym, ap, subst, ◌∙◌, inl, inr, suc, length-append}}
use Rattle.std.proofs.lemmas.{Bool.Decides.{nat_tests, Decides-eqb, eqb_tells}, List.{map-append, length-map, Elements.{All-push}}}
use Rattle.std.proofs.lemmas.{List.{Folds.{list_any_at}, Quantifiers.{all_pairs_push}}, Map.Made.{IsDistinct-from_AllPairs}}
use Rattle.std.proofs.lemmas.Map.Steps.{length-le_from_distinct_below}
use Rattle.perf_base.specs.declared.numbers.{EventNo.{EventNo}, RingNo.{RingNo}}
use Rattle.world_tables.specs.Marks.{AreMarks}

no-match : (n : ℕ) (ns : List ℕ) (k d : ℕ) → list_any (λ m. m == n) ns ≡ false → k < length ns → slice_index_or ns k d ≡ n → ⊥
no-match n ns k d none low same = grind (arith, nat_tests, list_any_at)

more : (ns : List ℕ) (n room : ℕ) → AreMarks ns room → n < 256 → list_any (λ m. m == n) ns ≡ false → AreMarks (ns ++ n ∷ []) room
more ns n room h low none = record {
  low = All-push (λ m. m < 256) ns n h.low low;
  once = all_pairs_push (λ a b. a ≢ b) ns n h.once (λ k d below same. no-match n ns k d none below same);
  room = h.room;
}

any-low : (q : ℕ) (ns : List ℕ) → All (λ m. m < 256) ns → list_any (eqb q) ns ≡ true → q < 256
any-low q [] low any = absurd (cc)
any-low q (n ∷ ns) low any = elim (eqb_tells q n) [
  | inl (_, same) ↦ omega (arith, same, low 0 0 (omega arith))
  | inr (other, _) ↦ any-low q ns (λ k d below. low (suc k) d (omega (arith, below))) (sym (ap (λ b. b || list_any (eqb q) ns) other) ∙ any)
]

few : (ns : List ℕ) (room : ℕ) → AreMarks ns room → length ns ≤ 256
few ns room h = length-le_from_distinct_below ns 256 (IsDistinct-from_AllPairs Decides-eqb ns h.once) (λ q any. any-low q ns h.low any)

room-for : (ns : List ℕ) (n room : ℕ) → AreMarks ns room → n < 256 → list_any (λ m. m == n) ns ≡ false → length ns + 1 ≤ room
room-for ns n room h low none = omega (arith, few (ns ++ n ∷ []) room (more ns n room h low none), length-append ns (n ∷ []), h.room)

any-map : {X : Type 0} (f : X → ℕ) (n : ℕ) (xs : List X) → list_any (λ m. m == n) (map f xs) ≡ list_any (λ x. f x == n) xs
any-map f n [] = refl
any-map f n (x ∷ xs) = ap (λ b. (f x == n) || b) (any-map f n xs)

pub no_marks : (room : ℕ) → 256 ≤ room → AreMarks [] room
no_marks room h = record { low = λ k d low. absurd (omega arith); once = λ i j d below low. absurd (omega arith); room = h }

pub slot_more : (slots : List EventNo) (e : EventNo) (room : ℕ) → AreMarks (map (λ x. x.0) slots) room → e.0 < 256 → list_any (λ x. x.0 == e.0) slots ≡ false
    → AreMarks (map (λ x. x.0) (slots ++ e ∷ [])) room
slot_more slots e room h low none =
    subst (λ (ns : List ℕ). AreMarks ns room) (sym (map-append (λ x. x.0) slots (e ∷ []))) (more (map (λ x. x.0) slots) e.0 room h low (any-map (λ x. x.0) e.0 slots ∙ none))

pub slot_room : (slots : List EventNo) (e : EventNo) (room : ℕ) → AreMarks (map (λ x. x.0) slots) room → e.0 < 256 → list_any (λ x. x.0 == e.0) slots ≡ false → length slots + 1 ≤ room
slot_room slots e room h low none =
    omega (arith, length-map slots (λ x. x.0), room-for (map (λ x. x.0) slots) e.0 room h low (any-map (λ x. x.0) e.0 slots ∙ none))

pub ring_more : (rings : List RingNo) (r : RingNo) (room : ℕ) → AreMarks (map (λ x. x.0) rings) room → r.0 < 256 → list_any (λ x. x.0 == r.0) rings ≡ false
    → AreMarks (map (λ x. x.0) (rings ++ r ∷ [])) room
ring_more rings r room h low none =
    subst (λ (ns : List ℕ). AreMarks ns room) (sym (map-append (λ x. x.0) rings (r ∷ []))) (more (map (λ x. x.0) rings) r.0 room h low (any-map (λ x. x.0) r.0 rings ∙ none))

pub ring_room : (rings : List RingNo) (r : RingNo) (room : ℕ) → AreMarks (map (λ x. x.0) rings) room → r.0 < 256 → list_any (λ x. x.0 == r.0) rings ≡ false → length rings + 1 ≤ room
ring_room rings r room h low none =
    omega (arith, length-map rings (λ x. x.0), room-for (map (λ x. x.0) rings) r.0 room h low (any-map (λ x. x.0) r.0 rings ∙ none))
