-- The instances that a walk has found are hit, one after the other, while it goes on.
use Rattle.std.specs.Prelude.{◌≡◌, ℕ, zero, suc, ◌+◌, ◌<◌, ◌≤◌, List, [], ◌∷◌, length, map, take, drop, slice_get, slice_index_or, Some}
use Rattle.std.proofs.{Common.{arith, refl, sym, ap, subst, ◌∙◌}, lemmas.List.{take_all}}
use Rattle.perf_base.specs.declared.numbers.CpuNo.{CpuNo}
use Rattle.world_spec.specs.{Value.{World}, Working.{keys_by_pass}}
use Rattle.work_account.specs.declared.{happening.Happening.{Happening}, overflowing.{Hit.{Hit}}, walking.Walk.{Walk}}
use Rattle.work_account.specs.{Visits.{hits_among, hit_one, hit_all, overflow_of, MayHit, MayHitAll}, Walks.{keys_from}}
use Rattle.work_account.proofs.{Struck.{all-rest, none-hit, hit-next, next-may, next-over}, Walks.{walk-starts}}

-- the first of what is left of a list
pub first-low : (A : Type 0) (xs rest : List A) (i : ℕ) (x : A) → drop i xs ≡ x ∷ rest → i < length xs
first-low A [] rest zero x h = absurd (cc)
first-low A [] rest (suc i) x h = absurd (cc)
first-low A (y ∷ xs) rest zero x h = omega arith
first-low A (y ∷ xs) rest (suc i) x h = omega (arith, first-low A xs rest i x h)

pub first-is : (A : Type 0) (xs rest : List A) (i : ℕ) (x : A) → drop i xs ≡ x ∷ rest → slice_index_or xs i x ≡ x
first-is A [] rest zero x h = absurd (cc)
first-is A [] rest (suc i) x h = absurd (cc)
first-is A (y ∷ xs) rest zero x h = cc
first-is A (y ∷ xs) rest (suc i) x h = first-is A xs rest i x h

pub first-got : (A : Type 0) (xs rest : List A) (i : ℕ) (x : A) → drop i xs ≡ x ∷ rest → slice_get xs i ≡ Some x
first-got A [] rest zero x h = absurd (cc)
first-got A [] rest (suc i) x h = absurd (cc)
first-got A (y ∷ xs) rest zero x h = cc
first-got A (y ∷ xs) rest (suc i) x h = first-got A xs rest i x h

rest-after : (A : Type 0) (xs rest : List A) (i : ℕ) (x : A) → drop i xs ≡ x ∷ rest → drop (suc i) xs ≡ rest
rest-after A [] rest zero x h = absurd (cc)
rest-after A [] rest (suc i) x h = absurd (cc)
rest-after A (y ∷ xs) rest zero x h = cc
rest-after A (y ∷ xs) rest (suc i) x h = rest-after A xs rest i x h

pub rest-is : (A : Type 0) (xs rest : List A) (i : ℕ) (x : A) → drop i xs ≡ x ∷ rest → drop (i + 1) xs ≡ rest
rest-is A xs rest i x h = ap (λ n. drop n xs) (let e : i + 1 ≡ suc i = omega arith in e) ∙ rest-after A xs rest i x h

none-past : (A : Type 0) (xs : List A) (i : ℕ) → drop i xs ≡ [] → length xs ≤ i
none-past A [] i h = omega arith
none-past A (x ∷ xs) zero h = absurd (cc)
none-past A (x ∷ xs) (suc i) h = omega (arith, none-past A xs i h)

pub drop-mapped : (w : World) (hits : List Hit) (i : ℕ) → drop i (map (overflow_of w) hits) ≡ map (overflow_of w) (drop i hits)
drop-mapped w hits zero = refl
drop-mapped w [] (suc i) = refl
drop-mapped w (h ∷ hits) (suc i) = drop-mapped w hits i

-- Some of those that take it were hit, the walk stands at the next one, and counts of lost records may have changed.
pub record IsStruck (x : Happening) (w : World) (cpu : CpuNo) (walk : Walk) (now : World) : Type 0 where
  pub at : ℕ
  pub within : at ≤ length (hits_among x w (keys_by_pass w cpu))
  pub rest : hits_among x w (keys_from w cpu walk) ≡ drop at (hits_among x w (keys_by_pass w cpu))
  pub world : now ≡ record (hit_all (take at (hits_among x w (keys_by_pass w cpu))) w) { lost = now.lost }

module _ (x : Happening) (w : World) (cpu : CpuNo) where
  abbrev all : List Hit
  all = hits_among x w (keys_by_pass w cpu)

  abbrev pub struck-none : IsStruck x w cpu (record { pass = 0; group = 0; member = 0 }) w
  struck-none = record {
    at = 0;
    within = omega arith;
    rest = ap (hits_among x w) (walk-starts w cpu);
    world = ap {A = World} {B = World} (λ v. record v { lost = w.lost }) (sym (none-hit w));
  }

  module _ (walk : Walk) (now : World) (s : IsStruck x w cpu walk now) where
    -- hits change no more than accounts
    pub but-counts : now ≡ record w { accounts = (hit_all (take s.at all) w).accounts; lost = now.lost }
    but-counts = s.world ∙ ap {A = World} {B = World} (λ v. record v { lost = now.lost }) (all-rest (take s.at all) w)

    pub same-hits : (other : Walk) → hits_among x now (keys_from now cpu other) ≡ hits_among x w (keys_from w cpu other)
    same-hits other = ap (λ (v : World). hits_among x v (keys_from v cpu other)) but-counts

    module _ (h : Hit) (further : Walk) (found : hits_among x now (keys_from now cpu walk) ≡ h ∷ hits_among x now (keys_from now cpu further)) where
      pub found-left : drop s.at all ≡ h ∷ hits_among x w (keys_from w cpu further)
      found-left = sym s.rest ∙ (sym (same-hits walk) ∙ (found ∙ ap (λ (l : List Hit). h ∷ l) (same-hits further)))

      pub found-at : drop s.at all ≡ h ∷ drop (s.at + 1) all
      found-at = found-left ∙ ap (λ (l : List Hit). h ∷ l) (sym (rest-is Hit all (hits_among x w (keys_from w cpu further)) s.at h found-left))

      pub found-low : s.at < length all
      found-low = first-low Hit all (hits_among x w (keys_from w cpu further)) s.at h found-left

      pub found-is : slice_index_or all s.at h ≡ h
      found-is = first-is Hit all (hits_among x w (keys_from w cpu further)) s.at h found-left

      pub fewer : length (hits_among x w (keys_from w cpu further)) < length (hits_among x w (keys_from w cpu walk))
      fewer = omega (arith, ap (λ (l : List Hit). length l) (s.rest ∙ found-left))

      pub found-may : MayHitAll w all → MayHit now h
      found-may may =
          let m : MayHit (hit_all (take s.at all) w) (slice_index_or all s.at h) = next-may w all may s.at h found-low may.linked (hit_all (take s.at all) w) refl in
          let n : MayHit (hit_all (take s.at all) w) h = subst (MayHit (hit_all (take s.at all) w)) found-is m in
          subst (λ v. MayHit v h) (sym s.world) (record { live = n.live; alone = n.alone; counts = n.counts })

      pub found-over : MayHitAll w all → overflow_of now h ≡ overflow_of w h
      found-over may =
          ap (λ v. overflow_of v h) s.world
          ∙ subst (λ (k : Hit). overflow_of (hit_all (take s.at all) w) k ≡ overflow_of w k) found-is (next-over w all may s.at h found-low may.linked (hit_all (take s.at all) w) refl)

      abbrev pub struck-next : (new : World) → new ≡ record (hit_one now h) { lost = new.lost } → IsStruck x w cpu further new
      struck-next new hit = record {
        at = s.at + 1;
        within = omega (arith, found-low);
        rest = sym (rest-is Hit all (hits_among x w (keys_from w cpu further)) s.at h found-left);
        world = hit ∙ (ap {A = World} {B = World} (λ v. record (hit_one v h) { lost = new.lost }) s.world
            ∙ ap {A = World} {B = World} (λ v. record v { lost = new.lost })
            (hit-next all s.at h w (hit_all (take s.at all) w) (hit_one (hit_all (take s.at all) w) h) found-low refl (ap (hit_one (hit_all (take s.at all) w)) (sym found-is))));
      }

    module _ (none : hits_among x now (keys_from now cpu walk) ≡ []) where
      past : length all ≤ s.at
      past = none-past Hit all s.at (sym s.rest ∙ (sym (same-hits walk) ∙ none))

      pub all-struck : now ≡ record (hit_all all w) { lost = now.lost }
      all-struck = s.world ∙ ap {A = List Hit} {B = World} (λ l. record (hit_all l w) { lost = now.lost }) (take_all s.at all past)

      pub all-counted : s.at ≡ length all
      all-counted = omega (arith, past, s.within)

      pub none-left : drop s.at all ≡ []
      none-left = sym s.rest ∙ (sym (same-hits walk) ∙ none)
