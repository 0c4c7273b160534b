-- The looks that a loop over rising rings keeps.
use Rattle.std.specs.Prelude.{◌≡◌, ℕ, ◌+◌, ◌<◌, ◌≤◌, ◌⊎◌, AllPairs, List, [], ◌∷◌, ◌++◌, length, slice_index_or}
use Rattle.std.proofs.{Common.{arith, sym, ap, subst, ◌∙◌, append_assoc, append-nil, inl, inr, length-append}, lemmas.List.{get_or_default}}
use Rattle.perf_base.specs.declared.{acts.Act.{Act}, numbers.RingNo.{RingNo}}
use Rattle.perf_base.specs.declared.acts.Act.TheVariants as act
use Rattle.stage_spec.specs.Order.{last_seen}
use Rattle.ring_laws.{specs.Growing.{AreBelow, AreLooks}, proofs.Shapes.{below-more, looks-more, unseen-looks}}

abbrev pub no_ring : RingNo × ℕ
no_ring = (record { 0 = 0 }, 0)

abbrev pub Rising : List (RingNo × ℕ) → Type 0
Rising rings = AllPairs (λ q r. q.0.0 < r.0.0) rings

-- After the first rings the acts are those before and looks at these rings, each at a place above the last one of its
-- ring.
pub record Looked (rings : List (RingNo × ℕ)) (n : ℕ) (before items : List Act) : Type 0 where
  pub looks : List Act
  pub are : AreLooks 0 before looks
  pub below : (least : ℕ) × AreBelow least looks × ((k : ℕ) (d : RingNo × ℕ) → n ≤ k → k < length rings → least ≤ (slice_index_or rings k d).0.0)
  pub is : items ≡ before ++ looks
  pub few : length looks ≤ n

pub looked-none : (rings : List (RingNo × ℕ)) (before : List Act) → Looked rings 0 before before
looked-none rings before = record { looks = []; are = tt; below = (0, tt, λ k d past low. omega arith); is = sym (append-nil before); few = omega arith }

-- no look at the next ring
pub looked-same : (rings : List (RingNo × ℕ)) (k : ℕ) (before items : List Act) → Looked rings k before items → Looked rings (k + 1) before items
looked-same rings k before items h = record {
  looks = h.looks;
  are = h.are;
  below = (h.below.0, h.below.1, λ j d past low. h.below.2 j d (omega (arith, past)) low);
  is = h.is;
  few = omega (arith, h.few);
}

-- the looks so far are of rings below the next, so its tail was seen last where it was before them
looked-below : (rings : List (RingNo × ℕ)) (k : ℕ) (d : RingNo × ℕ) (before items : List Act) (h : Looked rings k before items) → k < length rings → AreBelow (slice_index_or rings k d).0.0 h.looks
looked-below rings k d before items h low = up h.looks h.below.1
  where
    up : (looks : List Act) → AreBelow h.below.0 looks → AreBelow (slice_index_or rings k d).0.0 looks
    up [] b = tt
    up (act.Processor cpu ∷ looks) b = absurd b
    up (act.Tool tool ∷ looks) b = absurd b
    up (act.Seen ring place ∷ looks) b = (omega (arith, b.0, h.below.2 k d (omega arith) low), up looks b.1)

pub looked-last : (rings : List (RingNo × ℕ)) (k : ℕ) (d : RingNo × ℕ) (before items : List Act) (h : Looked rings k before items) → k < length rings
    → last_seen (slice_index_or rings k d).0 items ≡ last_seen (slice_index_or rings k d).0 before
looked-last rings k d before items h low =
    ap (last_seen (slice_index_or rings k d).0) h.is ∙ unseen-looks before h.looks (slice_index_or rings k d).0 (looked-below rings k d before items h low)

-- a look at the next ring
pub looked-more : (rings : List (RingNo × ℕ)) (k : ℕ) (d : RingNo × ℕ) (before items : List Act) (place : ℕ) → Rising rings → Looked rings k before items → k < length rings
    → last_seen (slice_index_or rings k d).0 items < place → Looked rings (k + 1) before (items ++ act.Seen (slice_index_or rings k d).0 place ∷ [])
looked-more rings k d before items place rise h low above =
    let ring : RingNo = (slice_index_or rings k d).0 in
    let here : AreBelow ring.0 h.looks = looked-below rings k d before items h low in
    let last : last_seen ring items ≡ last_seen ring before = looked-last rings k d before items h low in
    record {
      looks = h.looks ++ act.Seen ring place ∷ [];
      are = looks-more 0 before h.looks ring place h.are here (omega arith) (omega (arith, above, last));
      below = (
        ring.0 + 1,
        below-more ring.0 (ring.0 + 1) h.looks ring place here (omega arith) (omega arith),
        λ j e past inside. next-is-above j e past inside,
      );
      is = ap (λ acts. acts ++ act.Seen ring place ∷ []) h.is ∙ append_assoc before h.looks (act.Seen ring place ∷ []);
      few = omega (arith, length-append h.looks (act.Seen ring place ∷ []), h.few);
    }
  where
    next-is-above : (j : ℕ) (e : RingNo × ℕ) → k + 1 ≤ j → j < length rings → (slice_index_or rings k d).0.0 + 1 ≤ (slice_index_or rings j e).0.0
    next-is-above j e past inside =
        omega (arith, rise k j d (omega (arith, past)) inside, ap (λ (r : RingNo × ℕ). r.0.0) (get_or_default rings j d e inside))

-- as what one look of a loop says: the acts are as they were, or have a look more, further than the last one
abbrev pub IsNext : List (RingNo × ℕ) → ℕ → (items then : List Act) → Type 0
IsNext rings k items then =
    (then ≡ items) ⊎ ((place : ℕ) × (last_seen (slice_index_or rings k no_ring).0 items < place) × (then ≡ items ++ act.Seen (slice_index_or rings k no_ring).0 place ∷ []))

pub looked-next : (rings : List (RingNo × ℕ)) (k : ℕ) (before items then : List Act) → Rising rings → Looked rings k before items → k < length rings → IsNext rings k items then
    → Looked rings (k + 1) before then
looked-next rings k before items then rise h low (inl same) = subst (Looked rings (k + 1) before) (sym same) (looked-same rings k before items h)
looked-next rings k before items then rise h low (inr look) =
    subst (Looked rings (k + 1) before) (sym look.2) (looked-more rings k no_ring before items look.0 rise h low look.1)
