-- How many events a kept world once-both: the originals and the copies.
use Rattle.std.specs.Prelude.{◌≡◌, ℕ, ◌+◌, ◌-◌, ◌<◌, ◌≤◌, ◌==◌, Bool, true, false, not, cond, is_some, List, [], ◌∷◌, length, map, filter, count_by, Option, Some, None, slice_index_or}
use Rattle.std.specs.Cmp.{unsigned_tied}
use Rattle.std.specs.FinMap.{FinMap, get, contains_key, remove, empty, len, len-remove, get-remove, get-empty, len-empty, empty_of_len, same_map, nat_cmp-IsAntisymmetric}
use Rattle.std.{specs.{Ordering.{nat_cmp, eq_by_cmp}, List.{list_any}}, proofs.Common.{arith, refl, sym, ap, ◌∙◌, inl, inr}}
use Rattle.std.proofs.lemmas.{Bool.{cases_Bool, cases_eq, Decides.{nat_tests}}, Cmp.{nat_cmp_total}}
use Rattle.perf_base.specs.declared.numbers.{EventNo.{EventNo}, Key.{Key}}
use Rattle.stage_spec.specs.{Hardware.{Hardware}, Opening.{is_used}, Stage.{is_copy}}
use Rattle.stage_laws.proofs.Counts.{count-cons}
use Rattle.world_spec.specs.{Value.{World, no_family, is_live, instance_at, is_key, times}, StageOf.{stage_of}}
use Rattle.world_spec.{specs.Kept.{post_at, once_if, in_option, copies_in, is_original_in, IsKept}, proofs.AddedStage.{one-in_option}}
use Rattle.world_spec.proofs.{Counting.{times-filter}, Families.{all_keys, times-keys, instances-are, copies-are}}
use Rattle.world_spec.proofs.Keys.{times-cons, once-true, once-false, is_key-same, is_key-other}
use Rattle.perf_world.proofs.Room.{few, fewer}
use Rattle.world_spec.proofs.Along.{once-both}
use Rattle.world_spec.proofs.Copying.{at-most-once}

-- a table whose keys are those of a list, each once, once-both as many keys
tied : (q k : ℕ) (b : Bool) → (q == k) ≡ b → eq_by_cmp nat_cmp q k ≡ b
tied q k b e = unsigned_tied q k ∙ e

no-value : {X : Type 0} (o : Option X) → 0 ≡ once_if (is_some o) → o ≡ None
no-value None e = refl
no-value (Some x) e = absurd (omega (arith, e))

some-len : {X : Type 0} (m : FinMap nat_cmp X) (k : ℕ) → contains_key m k ≡ true → 1 ≤ len m
some-len m k there = elim (cases_eq (len m) 0) [
  | inl e ↦ absurd (let no_key : contains_key m k ≡ false = ap (λ x. contains_key x k) (empty_of_len m e) ∙ ap is_some (get-empty nat_cmp k) in cc (there, no_key))
  | inr off ↦ omega arith
]

len-keys : {X : Type 0} (keys : List Key) (m : FinMap nat_cmp X) → ((q : Key) → times q keys ≡ once_if (contains_key m q.0)) → len m ≡ length keys
len-keys {X} [] m h =
    let none : (q : ℕ) → get m q ≡ None = λ q. no-value (get m q) (h (record { 0 = q })) in
    ap len (same_map nat_cmp_total nat_cmp-IsAntisymmetric m empty (λ q. none q ∙ sym (get-empty nat_cmp q))) ∙ len-empty nat_cmp X
len-keys (k ∷ keys) m h =
    let here : contains_key m k.0 ≡ true = once-both (contains_key m k.0) (omega (arith, h k, times-cons k k keys, once-true (is_key k k) (is_key-same k k refl))) in
    let rest : FinMap nat_cmp _ = remove m k.0 in
    let fewer_keys : (q : Key) → times q keys ≡ once_if (contains_key rest q.0) = λ q. elim (cases_eq q.0 k.0) [
      | inl e ↦
          let gone : contains_key rest q.0 ≡ false = ap is_some (get-remove nat_cmp_total m k.0 q.0 ∙ ap (λ b. cond b None (get m q.0)) (tied q.0 k.0 true (grind (arith, nat_tests, e)))) in
          let had : contains_key m q.0 ≡ true = ap (contains_key m) e ∙ here in
          omega (arith, h q, times-cons q k keys, once-true (is_key q k) (is_key-same q k (sym e)), once-true (contains_key m q.0) had, once-false (contains_key rest q.0) gone)
      | inr off ↦
          let stays : contains_key rest q.0 ≡ contains_key m q.0 = ap is_some (get-remove nat_cmp_total m k.0 q.0 ∙ ap (λ b. cond b None (get m q.0)) (tied q.0 k.0 false (grind (arith, nat_tests, off)))) in
          omega (arith, h q, times-cons q k keys, once-false (is_key q k) (is_key-other q k (λ e. off (sym e))), ap once_if stays)
    ] in
    let shorter : len rest ≡ len m - 1 = len-remove nat_cmp_total m k.0 ∙ ap (λ b. cond b (len m - 1) (len m)) here in
    omega (arith, len-keys keys rest fewer_keys, shorter, some-len m k.0 here)

-- the keys that pass a test and those that don't
split-length : (p : Key → Bool) (keys : List Key) → length keys ≡ count_by p keys + length (filter (λ k. not (p k)) keys)
split-length p [] = refl
split-length p (k ∷ keys) = grind (arith, nat_tests, count-cons, once-true, once-false, split-length p keys)

count-map : {X : Type 0} (p : X → Bool) (f : Key → X) (keys : List Key) → count_by p (map f keys) ≡ count_by (λ k. p (f k)) keys
count-map p f [] = refl
count-map p f (k ∷ keys) = count-cons p (f k) (map f keys) ∙ (ap (λ n. once_if (p (f k)) + n) (count-map p f keys) ∙ sym (count-cons (λ q. p (f q)) k keys))

module _ (hw : Hardware) (w : World) (h : IsKept hw w) where
  abbrev is_of_copy : Key → Bool
  is_of_copy k = is_copy (instance_at w k)

  abbrev originals : List Key
  originals = filter (λ k. not (is_of_copy k)) (all_keys w)

  len-is : len w.entries ≡ copies_in w.families + length originals
  len-is =
      let whole : len w.entries ≡ length (all_keys w) = len-keys (all_keys w) w.entries (times-keys hw w h) in
      let copies : count_by is_of_copy (all_keys w) ≡ copies_in w.families =
      sym (count-map is_copy (instance_at w) (all_keys w)) ∙ (sym (ap (count_by is_copy) (instances-are hw w h)) ∙ copies-are hw w h) in
      omega (arith, whole, copies, split-length is_of_copy (all_keys w))

  original-there : (q : Key) → 1 ≤ times q originals → (is_live w q ≡ true) × ((instance_at w q).copy ≡ false)
  original-there q there = elim (cases_Bool (is_of_copy q)) [
    | inl e ↦ absurd (omega (arith, there, times-filter q (λ k. not (is_of_copy k)) (all_keys w), ap (λ b. cond (not b) (times q (all_keys w)) 0) e))
    | inr e ↦ (once-both (is_live w q) (omega (arith, there, times-keys hw w h q, times-filter q (λ k. not (is_of_copy k)) (all_keys w), ap (λ b. cond (not b) (times q (all_keys w)) 0) e)), e)
  ]

  original-once : (q : Key) → times q originals ≤ 1
  original-once q = elim (cases_Bool (is_of_copy q)) [
    | inl e ↦ omega (arith, times-filter q (λ k. not (is_of_copy k)) (all_keys w), ap (λ b. cond (not b) (times q (all_keys w)) 0) e)
    | inr e ↦ omega (arith, times-filter q (λ k. not (is_of_copy k)) (all_keys w), ap (λ b. cond (not b) (times q (all_keys w)) 0) e, times-keys hw w h q, at-most-once (is_live w q))
  ]

  in-slot : (q : Key) (slot : ℕ) → is_live w q ≡ true → (instance_at w q).copy ≡ false → (instance_at w q).event.0 ≡ slot
      → times q (in_option (slice_index_or w.families slot no_family).original) ≡ 1
  in-slot q slot live first same =
      let here : ((instance_at w q).event.0 == slot) ≡ true = grind (arith, nat_tests, same) in
      let it : is_original_in (post_at w) slot q ≡ true = cc (live, here, first) in
      h.linked.originals q slot ∙ once-true (is_original_in (post_at w) slot q) it

  original-apart : (j k : Key) → 1 ≤ times j originals → 1 ≤ times k originals → (instance_at w j).event.0 ≡ (instance_at w k).event.0 → j.0 ≡ k.0
  original-apart j k a b same =
      let c = original-there j a in
      let d = original-there k b in
      one-in_option (slice_index_or w.families (instance_at w k).event.0 no_family).original j k (in-slot j (instance_at w k).event.0 c.0 c.1 same) (in-slot k (instance_at w k).event.0 d.0 d.1 refl)

  -- there is room for a copy where there are fewer than 4,096, and for an original in a slot that was not used
  pub room-for-copy : copies_in w.families < 4096 → len w.entries < 4352
  room-for-copy low =
      omega (arith, low, len-is, few (λ q. (instance_at w q).event.0) 256 originals original-once original-apart (λ q there. h.numbered.slots q (original-there q there).0))

  pub room-for-original : (e : EventNo) → e.0 < 256 → is_used (stage_of w) e ≡ false → len w.entries < 4352
  room-for-original e low unused =
      omega (
        arith,
        h.copies.few,
        len-is,
        fewer (λ q. (instance_at w q).event.0) e.0 256 originals low
            (λ q there same.
            let o = original-there q there in
            let its : is_used (stage_of w) (instance_at w q).event ≡ is_used (stage_of w) e = ap (λ n. list_any (λ x. x.0 == n) w.quiet.used) (sym same) in
            absurd (let was : is_used (stage_of w) (instance_at w q).event ≡ true = h.lawful.used q o.0 o.1 in cc (was, its, unused)))
            original-once original-apart (λ q there. h.numbered.slots q (original-there q there).0),
      )
