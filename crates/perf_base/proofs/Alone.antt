-- One element of a list that alone passes a test, and an element that is set.
use Rattle.std.proofs.Common.{◌≡◌, ℕ, zero, suc, Bool, true, false, cond, List, [], ◌∷◌, ◌++◌, length, filter, set, refl, sym, ap, ◌∙◌, subst, length-append, arith}
use mathlib.Core.Option.{some, some-injective, some-ne-none}
use lib.ListN.{get_elem?}

module _ {A : Type 0} (test : A → Bool) where
  -- what passes before and after the element i
  pub record Around (l : List A) (i : ℕ) (a : A) : Type 0 where
    pub before : List A
    pub after : List A
    pub now : filter test l ≡ before ++ cond (test a) (a ∷ after) after
    pub then : (w : A) → filter test (set l i w) ≡ before ++ cond (test w) (w ∷ after) after

  pub around : (l : List A) (i : ℕ) (a : A) → get_elem? l i ≡ some a → Around l i a
  around [] i a at = absurd (some-ne-none a (sym at))
  around (x ∷ xs) zero a at = let same : x ≡ a = some-injective x a at in record {
    before = [];
    after = filter test xs;
    now = ap (λ (y : A). cond (test y) (y ∷ filter test xs) (filter test xs)) same;
    then = λ w. refl;
  }
  around (x ∷ xs) (suc i) a at = let r = around xs i a at in record {
    before = cond (test x) (x ∷ r.before) r.before;
    after = r.after;
    now = elim (test x) as (λ b. cond b (x ∷ filter test xs) (filter test xs) ≡ cond b (x ∷ r.before) r.before ++ cond (test a) (a ∷ r.after) r.after)
        [ true ↦ ap (λ (l : List A). x ∷ l) r.now | false ↦ r.now ];
    then = λ w. elim (test x) as (λ b. cond b (x ∷ filter test (set xs i w)) (filter test (set xs i w)) ≡ cond b (x ∷ r.before) r.before ++ cond (test w) (w ∷ r.after) r.after)
        [ true ↦ ap (λ (l : List A). x ∷ l) (r.then w) | false ↦ r.then w ];
  }

  single : (before after : List A) (a p : A) → before ++ a ∷ after ≡ p ∷ [] → (before ≡ []) × (a ≡ p) × (after ≡ [])
  single [] after a p e = (refl, cc, cc)
  single (x ∷ []) after a p e = (cc, cc, cc)
  single (x ∷ y ∷ before) after a p e = (cc, cc, cc)

  nothing : (before after : List A) → before ++ after ≡ [] → (before ≡ []) × (after ≡ [])
  nothing [] after e = (refl, e)
  nothing (x ∷ before) after e = (cc, cc)

  module _ (l : List A) (i : ℕ) (a : A) (at : get_elem? l i ≡ some a) where
    pub it_alone : (p : A) → test a ≡ true → filter test l ≡ p ∷ [] → a ≡ p
    it_alone p passes one = let r = around l i a at in (single r.before r.after a p (subst (λ (b : Bool). r.before ++ cond b (a ∷ r.after) r.after ≡ p ∷ []) passes (sym r.now ∙ one))).1

    pub it_stays : (p w : A) → test a ≡ true → test w ≡ true → filter test l ≡ p ∷ [] → filter test (set l i w) ≡ w ∷ []
    it_stays p w passes still one =
        let r = around l i a at in
        let s = single r.before r.after a p (subst (λ (b : Bool). r.before ++ cond b (a ∷ r.after) r.after ≡ p ∷ []) passes (sym r.now ∙ one)) in
        r.then w ∙ ap (λ (b : Bool). r.before ++ cond b (w ∷ r.after) r.after) still ∙ ap (λ (l : List A). l ++ w ∷ r.after) s.0 ∙ ap (λ (l : List A). w ∷ l) s.2

    pub it_goes : (p w : A) → test a ≡ true → test w ≡ false → filter test l ≡ p ∷ [] → filter test (set l i w) ≡ []
    it_goes p w passes not one =
        let r = around l i a at in
        let s = single r.before r.after a p (subst (λ (b : Bool). r.before ++ cond b (a ∷ r.after) r.after ≡ p ∷ []) passes (sym r.now ∙ one)) in
        r.then w ∙ ap (λ (b : Bool). r.before ++ cond b (w ∷ r.after) r.after) not ∙ ap (λ (l : List A). l ++ r.after) s.0 ∙ s.2

    pub it_comes : (w : A) → test a ≡ false → test w ≡ true → filter test l ≡ [] → filter test (set l i w) ≡ w ∷ []
    it_comes w not passes none =
        let r = around l i a at in
        let s = nothing r.before r.after (subst (λ (b : Bool). r.before ++ cond b (a ∷ r.after) r.after ≡ []) not (sym r.now ∙ none)) in
        r.then w ∙ ap (λ (b : Bool). r.before ++ cond b (w ∷ r.after) r.after) passes ∙ ap (λ (l : List A). l ++ w ∷ r.after) s.0 ∙ ap (λ (l : List A). w ∷ l) s.1

    pub others_stay : (w : A) → test a ≡ false → test w ≡ false → filter test (set l i w) ≡ filter test l
    others_stay w not still =
        let r = around l i a at in
        r.then w ∙ ap (λ (b : Bool). r.before ++ cond b (w ∷ r.after) r.after) still ∙ sym (r.now ∙ ap (λ (b : Bool). r.before ++ cond b (a ∷ r.after) r.after) not)

    pub none_passes : filter test l ≡ [] → test a ≡ false
    none_passes none =
        let r = around l i a at in
        elim (test a) as (λ b. r.before ++ cond b (a ∷ r.after) r.after ≡ [] → b ≡ false)
        [ true ↦ λ e. absurd (omega (arith, ap length e, length-append r.before (a ∷ r.after))) | false ↦ λ e. refl ] (sym r.now ∙ none)
