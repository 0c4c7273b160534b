-- The passes keep their names, and each call its owner, where one view changes and where one comes.
use Rattle.std.proofs.Common.{◌≡◌, ◌≢◌, ℕ, zero, suc, ◌+◌, ◌<◌, ◌≤◌, ◌⊎◌, true, List, [], ◌∷◌, ◌++◌, length, set, Contains, refl, sym, ap, ◌∙◌, subst, inl, inr, ⊎_elim, length-append, arith}
use mathlib.Core.Option.{some, some-injective, some-ne-none}
use lib.ListN.{get_elem?}
use Rattle.atomic_table.proofs.Lists.{at_set, at_longer, at_snoc}
use Rattle.shared_object.specs.{declared.view.View.{View}, Rule.{IsPartIn, AreNamed}}

module _ {A : Type 0} where
  -- what stands at a place after the element at another, or at the same, was replaced
  pub replaced : (l : List A) (i id : ℕ) (u v w : A) → get_elem? l id ≡ some v → get_elem? l i ≡ some u
      → (z : A) × (get_elem? (set l id w) i ≡ some z) × ((u ≡ z) ⊎ ((u ≡ v) × (w ≡ z)))
  replaced [] i id u v w at there = absurd (some-ne-none v (sym at))
  replaced (x ∷ xs) zero zero u v w at there = (w, refl, inr (sym (some-injective x u there) ∙ some-injective x v at, refl))
  replaced (x ∷ xs) zero (suc id) u v w at there = (u, there, inl refl)
  replaced (x ∷ xs) (suc i) zero u v w at there = (u, there, inl refl)
  replaced (x ∷ xs) (suc i) (suc id) u v w at there = replaced xs i id u v w at there

  pub put : (l : List A) (i : ℕ) (a w : A) → get_elem? l i ≡ some a → get_elem? (set l i w) i ≡ some w
  put [] i a w at = absurd (some-ne-none a (sym at))
  put (x ∷ xs) zero a w at = refl
  put (x ∷ xs) (suc i) a w at = put xs i a w at

  pub at_end : (l : List A) (a b : A) (j : ℕ) → get_elem? (l ++ a ∷ []) j ≡ some b → (get_elem? l j ≡ some b) ⊎ ((a ≡ b) × (j ≡ length l))
  at_end [] a b zero e = inr (some-injective a b e, refl)
  at_end [] a b (suc j) e = absurd (some-ne-none b (sym e))
  at_end (x ∷ xs) a b zero e = inl e
  at_end (x ∷ xs) a b (suc j) e = ⊎_elim (λ (t : get_elem? xs j ≡ some b). inl t) (λ (t : (a ≡ b) × (j ≡ length xs)). inr (t.0, omega (arith, t.1))) (at_end xs a b j e)

  pub ends_alike : (xs ys : List A) (x y : A) → xs ++ x ∷ [] ≡ ys ++ y ∷ [] → (xs ≡ ys) × (x ≡ y)
  ends_alike [] [] x y e = (refl, cc)
  ends_alike [] (b ∷ ys) x y e = absurd (omega (arith, ap length e, length-append ys (y ∷ [])))
  ends_alike (a ∷ xs) [] x y e = absurd (omega (arith, ap length e, length-append xs (x ∷ [])))
  ends_alike (a ∷ xs) (b ∷ ys) x y e =
      let first : a ≡ b = cc in
      let tails : xs ++ x ∷ [] ≡ ys ++ y ∷ [] = cc in
      let rest : (xs ≡ ys) × (x ≡ y) = ends_alike xs ys x y tails in
      (cc, rest.1)

pub equal_unless : (m n : ℕ) → (m ≢ n → ⊥) → m ≡ n
equal_unless zero zero never = refl
equal_unless zero (suc n) never = absurd (never (λ e. omega arith))
equal_unless (suc m) zero never = absurd (never (λ e. omega arith))
equal_unless (suc m) (suc n) never = ap suc (equal_unless m n (λ other. never (λ e. other (omega (arith, e)))))

pub below_or_at : (m n : ℕ) → m < n + 1 → (m < n) ⊎ (m ≡ n)
below_or_at zero zero few = inr refl
below_or_at zero (suc n) few = inl (omega arith)
below_or_at (suc m) zero few = absurd (omega (arith, few))
below_or_at (suc m) (suc n) few =
    ⊎_elim (λ (t : m < n). inl (omega (arith, t))) (λ (t : m ≡ n). inr (omega (arith, t))) (below_or_at m n (omega (arith, few)))

module _ {K C R : Type 0} where
  -- a view of the same pass, or of none, which has made the calls that it had made
  pub record IsLater (v w : View K C R) : Type 0 where
    pub is_pass : w.is_pass ≡ v.is_pass
    pub name : w.name ≡ v.name
    pub parted : v.parted ≤ w.parted
    pub own : (place : ℕ) → Contains v.own place → Contains w.own place

  pub same_pass : (v w : View K C R) → w.is_pass ≡ v.is_pass → w.name ≡ v.name → w.parted ≡ v.parted → w.own ≡ v.own → IsLater v w
  same_pass v w is_pass name parted own =
      record { is_pass = is_pass; name = name; parted = omega (arith, parted); own = λ place has. subst (λ (l : List ℕ). Contains l place) (sym own) has }

  module _ (views : List (View K C R)) (id : ℕ) (v w : View K C R) (at : get_elem? views id ≡ some v) (later : IsLater v w) where
    -- the view as it was before
    record Was (i : ℕ) (a : View K C R) : Type 0 where
      old : View K C R
      there : get_elem? views i ≡ some old
      later_than : IsLater old a

    was : (i : ℕ) (a : View K C R) → get_elem? (set views id w) i ≡ some a → Was i a
    was i a here =
        ⊎_elim (λ (t : (i ≡ id) × (w ≡ a)). record { old = v; there = ap (get_elem? views) t.0 ∙ at; later_than = subst (IsLater v) t.1 later })
        (λ (t : (i ≢ id) × (get_elem? views i ≡ some a)). record { old = a; there = t.1; later_than = same_pass a a refl refl refl refl }) (at_set views id i w a here)

    -- the view as it is now
    record IsNow (i : ℕ) (u : View K C R) : Type 0 where
      new : View K C R
      here : get_elem? (set views id w) i ≡ some new
      later_than : IsLater u new

    is_now : (i : ℕ) (u : View K C R) → get_elem? views i ≡ some u → IsNow i u
    is_now i u there =
        let r = replaced views i id u v w at there in record {
          new = r.0;
          here = r.1;
          later_than =
              ⊎_elim (λ (e : u ≡ r.0). subst (IsLater u) e (same_pass u u refl refl refl refl))
              (λ (t : (u ≡ v) × (w ≡ r.0)). subst (IsLater u) t.1 (subst (λ (z : View K C R). IsLater z w) (sym t.0) later)) r.2;
        }

    pub part_still : (u a : View K C R) → a.name ≡ u.name → IsPartIn views u → IsPartIn (set views id w) a
    part_still u a name p =
        let n = is_now p.seat p.parent p.at in record {
          seat = p.seat;
          parent = n.new;
          at = n.here;
          of_pass = n.later_than.is_pass ∙ p.of_pass;
          number = p.number;
          before = omega (arith, p.before, n.later_than.parted);
          name = name ∙ p.name ∙ ap (λ (l : List ℕ). l ++ p.number ∷ []) (sym n.later_than.name);
        }

    pub named_still : (count more : ℕ) → ((place : ℕ) → place < more → (place < count) ⊎ (Contains w.own place × (w.is_pass ≡ true))) → AreNamed views count → AreNamed (set views id w) more
    named_still count more own h = record {
      apart = λ i j a b apart here there one other same.
          let x = was i a here in
          let y = was j b there in
          h.apart i j x.old y.old apart x.there y.there (sym x.later_than.is_pass ∙ one) (sym y.later_than.is_pass ∙ other) (sym x.later_than.name ∙ same ∙ y.later_than.name);
      parts = λ seat a here one.
          let x = was seat a here in
          ⊎_elim (λ (e : x.old.name ≡ []). inl (x.later_than.name ∙ e)) (λ (p : IsPartIn views x.old). inr (part_still x.old a x.later_than.name p))
          (h.parts seat x.old x.there (sym x.later_than.is_pass ∙ one));
      owned = λ place few.
          ⊎_elim
          (λ (old : place < count).
          let o = h.owned place old in
          let n = is_now o.seat o.owner o.at in
          record { seat = o.seat; owner = n.new; at = n.here; of_pass = n.later_than.is_pass ∙ o.of_pass; own = n.later_than.own place o.own })
          (λ (new : Contains w.own place × (w.is_pass ≡ true)). record { seat = id; owner = w; at = put views id v w at; of_pass = new.1; own = new.0 }) (own place few);
    }

    -- no name of a pass is new where none was before
    pub fresh_still : (name : List ℕ) → ((j : ℕ) (u : View K C R) → get_elem? views j ≡ some u → u.is_pass ≡ true → u.name ≢ name)
        → (j : ℕ) (a : View K C R) → get_elem? (set views id w) j ≡ some a → a.is_pass ≡ true → a.name ≢ name
    fresh_still name fresh j a here one same =
        let x = was j a here in
        fresh j x.old x.there (sym x.later_than.is_pass ∙ one) (sym x.later_than.name ∙ same)

  -- the name of the next part of a pass is new
  pub fresh : (views : List (View K C R)) (count id : ℕ) (v : View K C R) → get_elem? views id ≡ some v → v.is_pass ≡ true → AreNamed views count
      → (j : ℕ) (u : View K C R) → get_elem? views j ≡ some u → u.is_pass ≡ true → u.name ≢ v.name ++ v.parted ∷ []
  fresh views count id v at of_pass h j u there one same =
      ⊎_elim (λ (e : u.name ≡ []). absurd (omega (arith, ap length (sym e ∙ same), length-append v.name (v.parted ∷ []))))
      (λ (p : IsPartIn views u).
      let alike : (p.parent.name ≡ v.name) × (p.number ≡ v.parted) = ends_alike p.parent.name v.name p.number v.parted (sym p.name ∙ same) in
      let same_seat : p.seat ≡ id → ⊥ = λ e.
      let one : p.parent ≡ v = some-injective p.parent v (sym p.at ∙ ap (get_elem? views) e ∙ at) in
      omega (arith, p.before, alike.1, ap (λ (z : View K C R). z.parted) one) in
      let apart : p.seat ≢ id → ⊥ = λ other. h.apart p.seat id p.parent v other p.at at p.of_pass of_pass alike.0 in
      apart same_seat) (h.parts j u there one)

  part_more : (views : List (View K C R)) (n v : View K C R) → IsPartIn views v → IsPartIn (views ++ n ∷ []) v
  part_more views n v p =
      record { seat = p.seat; parent = p.parent; at = at_longer views (n ∷ []) p.seat p.parent p.at; of_pass = p.of_pass; number = p.number; before = p.before; name = p.name }

  pub named_more : (views : List (View K C R)) (count : ℕ) (n : View K C R) → (n.is_pass ≡ true → ((j : ℕ) (u : View K C R) → get_elem? views j ≡ some u → u.is_pass ≡ true → u.name ≢ n.name) × IsPartIn views n)
      → AreNamed views count → AreNamed (views ++ n ∷ []) count
  named_more views count n new h = record {
    apart = λ i j a b apart here there one other same.
        ⊎_elim
        (λ (t : get_elem? views i ≡ some a).
        ⊎_elim (λ (u : get_elem? views j ≡ some b). h.apart i j a b apart t u one other same)
        (λ (e : (n ≡ b) × (j ≡ length views)). (new (ap (λ (z : View K C R). z.is_pass) e.0 ∙ other)).0 i a t one (same ∙ sym (ap (λ (z : View K C R). z.name) e.0))) (at_end views n b j there))
        (λ (e : (n ≡ a) × (i ≡ length views)).
        ⊎_elim (λ (u : get_elem? views j ≡ some b). (new (ap (λ (z : View K C R). z.is_pass) e.0 ∙ one)).0 j b u other (sym same ∙ sym (ap (λ (z : View K C R). z.name) e.0)))
        (λ (d : (n ≡ b) × (j ≡ length views)). apart (e.1 ∙ sym d.1)) (at_end views n b j there)) (at_end views n a i here);
    parts = λ seat a here one.
        ⊎_elim
        (λ (t : get_elem? views seat ≡ some a).
        ⊎_elim (λ (e : a.name ≡ []). inl e) (λ (p : IsPartIn views a). inr (part_more views n a p)) (h.parts seat a t one))
        (λ (e : n ≡ a). inr (subst (IsPartIn (views ++ n ∷ [])) e (part_more views n n (new (ap (λ (z : View K C R). z.is_pass) e ∙ one)).1))) (at_snoc views n a seat here);
    owned = λ place few. let o = h.owned place few in record { seat = o.seat; owner = o.owner; at = at_longer views (n ∷ []) o.seat o.owner o.at; of_pass = o.of_pass; own = o.own };
  }
