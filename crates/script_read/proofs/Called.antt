-- Names that are the same, or not, and the first kind of a name.
use Rattle.std.proofs.Common.{◌≡◌, ◌≢◌, ℕ, zero, suc, ◌+◌, ◌<◌, ◌≤◌, ◌↔◌, Bool, AllPairs, take, map, length-take, is_some, true, false, All, List, [], ◌∷◌, length, get_or, Option, Some, None, refl, sym, ap, subst, ◌∙◌, arith, ltb, not}
use Rattle.std.proofs.lemmas.{Slice.Eq.{bytes_eq-Decides}, Bool.{cases_lt, lt-ltb, le-ltb}}
use Rattle.std.proofs.lemmas.List.{length-map, get_or_default, get_or-take, take_more, take_all, Sums.{position_or_len_is, fails_before_first}}
use Rattle.std.proofs.lemmas.{List.Quantifiers.{position-Some, all_pairs_push}, Option.{slice_get-get_or, slice_get_within, same_Some, none-some}}
use Rattle.std.specs.{Prelude.{slice_get, IfSome, IsTrue, Any}, List.{position_or_len}, Str.{bytes_eq}}
use Rattle.perf_base.specs.declared.lines.KindLine.{KindLine}
use Rattle.script_spec.specs.Meaning.{number_of}

pub get_is : {X : Type 0} (xs : List X) (i : ℕ) (x d : X) → slice_get xs i ≡ Some x → get_or xs i d ≡ x
get_is xs i x d e = same_Some _ x (sym (slice_get-get_or xs i d (slice_get_within xs i x e)) ∙ e)

-- the first kind of the name, or none
other_name : (kinds : List KindLine) (name : List ℕ) (k : ℕ) (d : KindLine) → k < length kinds → IfSome (slice_get kinds k) (λ x. bytes_eq x.name name ≡ false) → bytes_eq (get_or kinds k d).name name ≡ false
other_name kinds name k d l h = subst (λ (o : Option KindLine). IfSome o (λ x. bytes_eq x.name name ≡ false)) (slice_get-get_or kinds k d l) h

pub number_found : (kinds : List KindLine) (name : List ℕ) (i : ℕ) (x : KindLine) → slice_get kinds i ≡ Some x → bytes_eq x.name name ≡ true
    → ((k : ℕ) → k < i → IfSome (slice_get kinds k) (λ y. bytes_eq y.name name ≡ false)) → Some i ≡ number_of kinds name
number_found kinds name i x at is before =
    let within : i < length kinds = slice_get_within kinds i x at in
    let here : get_or kinds i x ≡ x = get_is kinds i x x at in
    let n : position_or_len (λ k. bytes_eq k.name name) kinds ≡ i = position_or_len_is (λ k. bytes_eq k.name name) kinds i x (omega arith) (λ k l. other_name kinds name k x (omega arith) (before k l)) (λ _. rw here is) in
    let t : ltb i (length kinds) ≡ true = lt-ltb _ _ within in
    rw (n, t) refl

pub number_not_found : (kinds : List KindLine) (name : List ℕ) (i : ℕ) → length kinds ≤ i
    → ((k : ℕ) → k < i → IfSome (slice_get kinds k) (λ y. bytes_eq y.name name ≡ false)) → None ≡ number_of kinds name
number_not_found [] name i past before = refl
number_not_found (x ∷ kinds) name i past before =
    let n : position_or_len (λ k. bytes_eq k.name name) (x ∷ kinds) ≡ length (x ∷ kinds) = position_or_len_is (λ k. bytes_eq k.name name) (x ∷ kinds) (length (x ∷ kinds)) x (omega arith) (λ k l. other_name (x ∷ kinds) name k x l (before k (omega arith))) (λ l. absurd (omega (arith, l))) in
    let t : ltb (length (x ∷ kinds)) (length (x ∷ kinds)) ≡ false = le-ltb _ _ (omega arith) in
    rw (n, t) refl

none_within : (xs : List KindLine) (k : ℕ) → k < length xs → slice_get xs k ≡ None → ⊥
none_within [] k l e = omega (arith, l)
none_within (x ∷ xs) zero l e = absurd cc
none_within (x ∷ xs) (suc k) l e = none_within xs k (omega (arith, l)) e

pub number_found_by : (kinds : List KindLine) (name called : List ℕ) (i : ℕ) → i < length kinds → IfSome (slice_get kinds i) (λ k. called ≡ k.name) → bytes_eq called name ≡ true
    → ((k : ℕ) → k < i → IfSome (slice_get kinds k) (λ y. bytes_eq y.name name ≡ false)) → Some i ≡ number_of kinds name
number_found_by kinds name called i within is t before = go (slice_get kinds i) refl is
  where
    go : (o : Option KindLine) → slice_get kinds i ≡ o → IfSome o (λ k. called ≡ k.name) → Some i ≡ number_of kinds name
    go (Some x) at same = number_found kinds name i x at (rw (← same) t) before
    go None at same = absurd (none_within kinds i within at)

-- ---- declared names

pub any_at : {X : Type 0} (P : X → Type 0) (xs : List X) (i : ℕ) (d : X) → i < length xs → P (get_or xs i d) → Any P xs
any_at P xs i d l p = (i, get_or xs i d, l, get_or_default xs i (get_or xs i d) d l, p)

pub declared_some : (kinds : List KindLine) (name : List ℕ) (i : ℕ) → number_of kinds name ≡ Some i → Any (λ k. k.name ≡ name) kinds
declared_some [] name i e = absurd cc
declared_some (x ∷ kinds) name i e =
    let p = position-Some (λ k. bytes_eq k.name name) (x ∷ kinds) i x e in
    any_at (λ k. k.name ≡ name) (x ∷ kinds) i x p.0 ((bytes_eq-Decides (get_or (x ∷ kinds) i x).name name).0 p.1)

pub declared_none : (kinds : List KindLine) (name : List ℕ) → number_of kinds name ≡ None → All (λ k. k.name ≢ name) kinds
declared_none kinds name e = grind (arith, get_or, true, bytes_eq-Decides, cases_lt, length, none-some, lt-ltb, false, fails_before_first)

pub new_iff : (kinds : List KindLine) (name : List ℕ) (r : Option ℕ) (b : Bool) → r ≡ number_of kinds name → is_some r ≡ not b → IsTrue b ↔ All (λ k. k.name ≢ name) kinds
new_iff kinds name (Some i) true e is = absurd cc
new_iff kinds name (Some i) false e is = (λ t. absurd cc, λ all. let any = declared_some kinds name i (sym e) in absurd (all any.0 any.1 any.2 (ap (λ (k : KindLine). k.name) any.3 ∙ any.4)))
new_iff kinds name None true e is = (λ t. declared_none kinds name (sym e), λ all. refl)
new_iff kinds name None false e is = absurd cc
