-- The one view of its kind, where a view changes or one more comes.
use Rattle.std.proofs.Common.{◌≡◌, ◌≢◌, ◌⊎◌, ℕ, zero, suc, Bool, true, false, List, [], ◌∷◌, ◌++◌, length, set, refl, sym, ap, ◌∙◌, inl, inr, ⊎_elim}
use mathlib.Core.Option.{some, some-injective, some-ne-none}
use lib.ListN.{get_elem?}
use Rattle.atomic_table.proofs.Lists.{at_set, at_snoc, set_here, set_else, at_longer, at_last}
use Rattle.user_page.{specs.{declared.view.View.{View}, Rule.{IsOnly}}, proofs.Lists.{at_within}}

pub clash : {A : Type 0} (b : Bool) → b ≡ true → b ≡ false → A
clash b is not = let e : true ≡ false = sym is ∙ not in absurd (cc)

-- one of the list, or the last
added : (l : List View) (a b : View) (j : ℕ) → get_elem? (l ++ a ∷ []) j ≡ some b → (get_elem? l j ≡ some b) ⊎ ((j ≡ length l) × (a ≡ b))
added [] a b zero e = inr (refl, some-injective a b e)
added [] a b (suc j) e = absurd (some-ne-none b (sym e))
added (x ∷ xs) a b zero e = inl e
added (x ∷ xs) a b (suc j) e = ⊎_elim (λ (t : get_elem? xs j ≡ some b). inl t) (λ (t : (j ≡ length xs) × (a ≡ b)). inr (ap suc t.0, t.1)) (added xs a b j e)

module _ (test : View → Bool) (views : List View) (u : View) (o : IsOnly test views u) where
  -- one more view of no such kind
  pub only_more : (n : View) → test n ≡ false → IsOnly test (views ++ n ∷ []) u
  only_more n not = record {
    seat = o.seat;
    there = at_longer views (n ∷ []) o.seat u o.there;
    is = o.is;
    alone = λ other z there passes.
        ⊎_elim (λ (was : get_elem? views other ≡ some z). o.alone other z was passes) (λ (e : n ≡ z). clash (test n) (ap test e ∙ passes) not) (at_snoc views n z other there);
  }

  module _ (id : ℕ) (v : View) (at : get_elem? views id ≡ some v) where
    pub only_is : test v ≡ true → v ≡ u
    only_is passes = some-injective v u (sym at ∙ ap (get_elem? views) (o.alone id v at passes) ∙ o.there)

    apart : test v ≡ false → o.seat ≢ id
    apart not e = let same : u ≡ v = some-injective u v (sym o.there ∙ ap (get_elem? views) e ∙ at) in clash (test v) (ap test (sym same) ∙ o.is) not

    pub only_stays : (w : View) → test v ≡ true → test w ≡ true → IsOnly test (set views id w) w
    only_stays w passes still = record {
      seat = id;
      there = set_here views id w (at_within views id v at);
      is = still;
      alone = λ other z there passes'.
          ⊎_elim (λ (t : (other ≡ id) × (w ≡ z)). t.0) (λ (t : (other ≢ id) × (get_elem? views other ≡ some z)). o.alone other z t.1 passes' ∙ sym (o.alone id v at passes))
          (at_set views id other w z there);
    }

    pub only_other : (w : View) → test v ≡ false → test w ≡ false → IsOnly test (set views id w) u
    only_other w not still = record {
      seat = o.seat;
      there = set_else views id o.seat w (apart not) ∙ o.there;
      is = o.is;
      alone = λ other z there passes.
          ⊎_elim (λ (t : (other ≡ id) × (w ≡ z)). clash (test w) (ap test t.1 ∙ passes) still) (λ (t : (other ≢ id) × (get_elem? views other ≡ some z)). o.alone other z t.1 passes)
          (at_set views id other w z there);
    }

    -- it goes from the seat to a new one
    pub only_goes : (w n : View) → test v ≡ true → test w ≡ false → test n ≡ true → IsOnly test (set views id w ++ n ∷ []) n
    only_goes w n passes not comes =
        let left : List View = set views id w in record {
          seat = length left;
          there = at_last left n (length left) refl;
          is = comes;
          alone = λ other z there passes'.
              ⊎_elim
              (λ (was : get_elem? left other ≡ some z).
              ⊎_elim (λ (t : (other ≡ id) × (w ≡ z)). clash (test w) (ap test t.1 ∙ passes') not)
              (λ (t : (other ≢ id) × (get_elem? views other ≡ some z)). absurd (t.0 (o.alone other z t.1 passes' ∙ sym (o.alone id v at passes)))) (at_set views id other w z was))
              (λ (t : (other ≡ length left) × (n ≡ z)). t.0) (added left n z other there);
        }
