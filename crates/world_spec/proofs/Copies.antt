-- The copies of families after a key came and after one went: by rising ids, and few.
use Rattle.std.specs.Prelude.{◌≡◌, ℕ, zero, suc, ◌<◌, ◌≤◌, Bool, true, false, not, List, [], ◌∷◌, ◌++◌, length, slice_index_or, slice_set}
use Rattle.std.{specs.List.{AllPairs}, proofs.{Common.{arith, refl, ap, ◌∙◌}, lemmas.{List.{length-append}}}}
use Rattle.std.proofs.lemmas.List.{Kept.{AllPairs-filter}, Quantifiers.{all_pairs_push}, Sums.{sum_by-set}}
use Rattle.perf_base.specs.declared.numbers.Key.{Key}
use Rattle.world_spec.specs.{Value.{Family, no_family, is_key, times}, Kept.{Post, once_if, is_copy_in, copies_in, AreNumbered, HaveCopies}}
use Rattle.world_spec.{specs.Adding.{in_family, out_of_family}, proofs.Keys.{is_key-same, times-cons, once-true, once-false, at_place}}
use Rattle.world_spec.proofs.{Coming.{Comes, live-apart, first-true}, Going.{Goes, still-apart}, GoneSibling.{length-all_but}}

-- what stands at a place stands in the list
pub times-at : (keys : List Key) (i : ℕ) (d : Key) → i < length keys → 1 ≤ times (slice_index_or keys i d) keys
times-at [] i d low = absurd (omega (arith, low))
times-at (q ∷ keys) zero d low = omega (arith, times-cons q q keys, once-true (is_key q q) (is_key-same q q refl))
times-at (q ∷ keys) (suc i) d low = omega (arith, times-cons (slice_index_or keys i d) q keys, times-at keys i d (omega (arith, low)))

abbrev AreRising : (Key → ℕ) → List Key → Type 0
AreRising f keys = AllPairs (λ j k. f j < f k) keys

rising-within : (f g : Key → ℕ) (keys : List Key) → ((q : Key) → 1 ≤ times q keys → g q ≡ f q) → AreRising f keys → AreRising g keys
rising-within f g keys same h i j d below low =
    omega (
      arith,
      h i j d below low,
      same (slice_index_or keys i d) (times-at keys i d (omega (arith, below, low))),
      same (slice_index_or keys j d) (times-at keys j d low),
    )

-- a key among the copies is live
copy-lives : (at : Key → Post) (slot n : ℕ) (q : Key) → n ≡ once_if (is_copy_in at slot q) → 1 ≤ n → (at q).live ≡ true
copy-lives at slot n q counted some = grind (arith, first-true, once-false)

-- a key that comes
pushed-rising : (f : Key → ℕ) (k : Key) (keys : List Key) → AreRising f keys → ((q : Key) → 1 ≤ times q keys → f q < f k) → AreRising f (keys ++ k ∷ [])
pushed-rising f k keys h last = all_pairs_push (λ i j. f i < f j) keys k h (λ i d low. last (slice_index_or keys i d) (times-at keys i d low))

joined-rising : (f : Key → ℕ) (copy : Bool) (k : Key) (family : Family) → AreRising f family.copies → ((q : Key) → 1 ≤ times q family.copies → f q < f k) → AreRising f (in_family copy k family).copies
joined-rising f true k family h last = pushed-rising f k family.copies h last
joined-rising f false k family h last = h

joined-few : (copy : Bool) (k : Key) (families : List Family) (event : ℕ) → event < length families → copies_in families ≤ 4096 → (copy ≡ true → copies_in families < 4096)
    → copies_in (slice_set families event (in_family copy k (slice_index_or families event no_family))) ≤ 4096
joined-few true k families event low few room = grind (arith, sum_by-set, length-append)
joined-few false k families event low few room = grind (arith, sum_by-set)

pub comes-rising : (at to : Key → Post) (k : Key) (p : Post) (next : ℕ) → Comes at to k p → p.id ≡ next → AreNumbered at next → (families : List Family) → p.event.0 < length families
    → ((j : Key) (slot : ℕ) → times j (slice_index_or families slot no_family).copies ≡ once_if (is_copy_in at slot j)) → (p.copy ≡ true → copies_in families < 4096)
    → HaveCopies at families → HaveCopies to (slice_set families p.event.0 (in_family p.copy k (slice_index_or families p.event.0 no_family)))
comes-rising at to k p next c id numbered families low counted room h =
    let lives : (slot : ℕ) (q : Key) → 1 ≤ times q (slice_index_or families slot no_family).copies → (at q).live ≡ true = λ slot q some. copy-lives at slot _ q (counted q slot) some in
    let same : (slot : ℕ) (q : Key) → 1 ≤ times q (slice_index_or families slot no_family).copies → (to q).id ≡ (at q).id =
    λ slot q some. ap (λ x. x.id) (c.others q (live-apart at k c.dead q (lives slot q some))) in
    let still : (slot : ℕ) → AreRising (λ q. (to q).id) (slice_index_or families slot no_family).copies =
    λ slot. rising-within (λ q. (at q).id) (λ q. (to q).id) (slice_index_or families slot no_family).copies (same slot) (h.rising slot) in
    let event : ℕ = p.event.0 in
    let mine : (to k).id ≡ next = ap (λ x. x.id) c.new ∙ id in
    record {
      rising = λ slot. at_place (λ f. AreRising (λ q. (to q).id) f.copies) families event (in_family p.copy k (slice_index_or families event no_family)) no_family slot low
          (λ e. joined-rising (λ q. (to q).id) p.copy k (slice_index_or families event no_family) (still event)
          (λ q some. omega (arith, mine, same event q some, (numbered.drawn q (lives event q some)).1)))
          (λ away. still slot);
      few = joined-few p.copy k families event low h.few room;
    }

-- a key that goes
left-rising : (f : Key → ℕ) (copy : Bool) (k : Key) (family : Family) → AreRising f family.copies → AreRising f (out_of_family copy k family).copies
left-rising f true k family h = AllPairs-filter (λ i j. f i < f j) (λ j. not (is_key k j)) family.copies h
left-rising f false k family h = h

left-few : (copy : Bool) (k : Key) (families : List Family) (event : ℕ) → event < length families → copies_in families ≤ 4096
    → copies_in (slice_set families event (out_of_family copy k (slice_index_or families event no_family))) ≤ 4096
left-few true k families event low few = grind (arith, sum_by-set, length-all_but)
left-few false k families event low few = grind (arith, sum_by-set)

pub goes-rising : (at to : Key → Post) (k : Key) → Goes at to k → (families : List Family) → (at k).event.0 < length families
    → ((j : Key) (slot : ℕ) → times j (slice_index_or (slice_set families (at k).event.0 (out_of_family (at k).copy k (slice_index_or families (at k).event.0 no_family))) slot no_family).copies
    ≡ once_if (is_copy_in to slot j))
    → HaveCopies at families → HaveCopies to (slice_set families (at k).event.0 (out_of_family (at k).copy k (slice_index_or families (at k).event.0 no_family)))
goes-rising at to k g families low counted h =
    let event : ℕ = (at k).event.0 in
    let new : Family = out_of_family (at k).copy k (slice_index_or families event no_family) in
    record {
      rising = λ slot. rising-within (λ q. (at q).id) (λ q. (to q).id) (slice_index_or (slice_set families event new) slot no_family).copies
          (λ q some. ap (λ x. x.id) (g.others q (still-apart at to k g q (copy-lives to slot _ q (counted q slot) some))))
          (at_place (λ f. AreRising (λ q. (at q).id) f.copies) families event new no_family slot low
          (λ e. left-rising (λ q. (at q).id) (at k).copy k (slice_index_or families event no_family) (h.rising event)) (λ away. h.rising slot));
      few = left-few (at k).copy k families event low h.few;
    }
