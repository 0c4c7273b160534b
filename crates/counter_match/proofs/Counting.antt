-- The members of a tight set have one allowed counter fewer than there are members.
use Rattle.std.specs.{Prelude.{◌≢◌, nat_eq, count_by}, List.{list_any}}
use Rattle.std.proofs.Common.{◌≡◌, ℕ, zero, suc, ◌+◌, ◌<◌, ◌≤◌, Bool, true, List, [], ◌∷◌, ◌++◌, length, get_or, map, drop, cond, refl, sym, ap, ◌∙◌, arith, inl, inr, ◌⊎◌, subst, length-drop}
use Rattle.std.proofs.lemmas.List.{length-map, get_or-map, get_or-drop, map-append, length_push, Sums.{sum_by-cons}}
use Rattle.std.proofs.lemmas.Bool.{cases_Bool, cases_eq, cases_order, or_cases, or_left, or_right}
use Rattle.perf_base.specs.declared.numbers.EventNo.{EventNo}
use Rattle.stage_spec.specs.{Fits.{can_count}, Tight.{masks_of, tight_set, allowed_count, TightLaw}}
use Rattle.counter_match.specs.Search.{SeatsAllBut, IsSearch, IsHeld, IsClosedBelow, picked}
use Rattle.counter_match.proofs.Fitting.{can_count-below, assignment_of, different-cons}
use Rattle.counter_match.proofs.Lists.{In, In-from_any, any-from_In, AreDifferent, length-le_from_In}
use Rattle.counter_match.proofs.{Closing.{Closed, closed_search, IsStuck-unfit}, Tightness.{tight_set-picked}, Appended.{SeatsAllBut-appended}}

-- the n numbers from k on
abbrev pub numbers_from : ℕ → ℕ → List ℕ
numbers_from k zero = []
numbers_from k (suc n) = k ∷ numbers_from (suc k) n

-- a number that is picked from those from k on
pub record IsPicked (p : ℕ → Bool) (k n x : ℕ) : Type 0 where
  pub low : k ≤ x
  pub high : x < k + n
  pub passes : p x ≡ true

pub In-cons : (x y : ℕ) (xs : List ℕ) → In (x ∷ xs) y → (x ≡ y) ⊎ In xs y
In-cons x y xs i = at i.place i.within i.is
  where
    at : (j : ℕ) → j < length (x ∷ xs) → get_or (x ∷ xs) j 0 ≡ y → (x ≡ y) ⊎ In xs y
    at zero l e = inl e
    at (suc j) l e = inr (record { place = j; within = omega arith; is = e })

pub In-later : (x y : ℕ) (xs : List ℕ) → In xs y → In (x ∷ xs) y
In-later x y xs i = record { place = suc i.place; within = omega (arith, i.within); is = i.is }

pub IsPicked-from_In : (p : ℕ → Bool) (k n x : ℕ) → In (picked p k (numbers_from k n)) x → IsPicked p k n x
IsPicked-from_In p k zero x i = absurd (omega (arith, i.within))
IsPicked-from_In p k (suc n) x i =
    elim (cases_Bool (p k)) [
      | inl t ↦ elim (In-cons k x (picked p (suc k) (numbers_from (suc k) n)) (rw t at i)) [
        | inl e ↦ record { low = omega arith; high = omega arith; passes = ap p (sym e) ∙ t }
        | inr j ↦ later (IsPicked-from_In p (suc k) n x j)
      ]
      | inr f ↦ later (IsPicked-from_In p (suc k) n x (rw f at i))
    ]
  where
    later : IsPicked p (suc k) n x → IsPicked p k (suc n) x
    later h = record { low = omega (arith, h.low); high = omega (arith, h.high); passes = h.passes }

pub In-from_IsPicked : (p : ℕ → Bool) (k n x : ℕ) → IsPicked p k n x → In (picked p k (numbers_from k n)) x
In-from_IsPicked p k zero x h = absurd (omega (arith, h.low, h.high))
In-from_IsPicked p k (suc n) x h =
    elim (cases_eq k x) [
      | inl e ↦ let t : p k ≡ true = ap p e ∙ h.passes in rw t (record { place = 0; within = omega arith; is = e })
      | inr ne ↦
          let i = In-from_IsPicked p (suc k) n x (record { low = omega (arith, h.low); high = omega (arith, h.high); passes = h.passes }) in
          elim (cases_Bool (p k)) [ inl t ↦ rw t (In-later k x _ i) | inr f ↦ rw f i ]
    ]

pub AreDifferent-picked : (p : ℕ → Bool) (k n : ℕ) → AreDifferent (picked p k (numbers_from k n))
AreDifferent-picked p k zero = record { different = λ i j l m. absurd (omega arith) }
AreDifferent-picked p k (suc n) =
    let ih = AreDifferent-picked p (suc k) n in
    elim (cases_Bool (p k)) [
      | inl t ↦ rw t (record {
        different = different-cons k (picked p (suc k) (numbers_from (suc k) n))
            (λ j l e. let h = IsPicked-from_In p (suc k) n k (record { place = j; within = l; is = sym e }) in omega (arith, h.low)) ih.different;
      })
      | inr f ↦ rw f ih
    ]

pub count_by-picked : (p : ℕ → Bool) (k n : ℕ) → count_by p (numbers_from k n) ≡ length (picked p k (numbers_from k n))
count_by-picked p k zero = refl
count_by-picked p k (suc n) =
    let ih : count_by p (numbers_from (suc k) n) ≡ length (picked p (suc k) (numbers_from (suc k) n)) = count_by-picked p (suc k) n in
    let step : count_by p (k ∷ numbers_from (suc k) n) ≡ cond (p k) 1 0 + count_by p (numbers_from (suc k) n) = sum_by-cons (λ x. cond (p x) 1 0) k (numbers_from (suc k) n) in
    step ∙ elim (cases_Bool (p k)) [ inl t ↦ rw t (omega arith) | inr f ↦ rw f (omega arith) ]

pub length-picked : {X : Type 0} (p : ℕ → Bool) (k : ℕ) (xs : List X) → length (picked p k xs) ≡ length (picked p k (numbers_from k (length xs)))
length-picked p k [] = refl
length-picked p k (x ∷ xs) = grind (arith, suc, length-picked p (suc k) xs)

pub map-picked : {X Y : Type 0} (f : X → Y) (p : ℕ → Bool) (k : ℕ) (xs : List X) → map f (picked p k xs) ≡ picked p k (map f xs)
map-picked f p k [] = refl
map-picked f p k (x ∷ xs) = grind (arith, suc, map-picked f p (suc k) xs)

-- a place that passes the test and whose number passes another
pub record Shows (p q : ℕ → Bool) (k : ℕ) (xs : List ℕ) : Type 0 where
  pub place : ℕ
  pub within : place < length xs
  pub chosen : p (k + place) ≡ true
  pub passes : q (get_or xs place 0) ≡ true

pub Shows-later : (p q : ℕ → Bool) (k x : ℕ) (xs : List ℕ) → Shows p q (suc k) xs → Shows p q k (x ∷ xs)
Shows-later p q k x xs s = record { place = suc s.place; within = omega (arith, s.within); chosen = ap p (omega arith) ∙ s.chosen; passes = s.passes }

pub Shows-from_any : (p q : ℕ → Bool) (k : ℕ) (xs : List ℕ) → list_any q (picked p k xs) ≡ true → Shows p q k xs
Shows-from_any p q k [] h = absurd (cc)
Shows-from_any p q k (x ∷ xs) h =
    elim (cases_Bool (p k)) [
      | inl t ↦ elim (or_cases (q x) _ (rw t at h)) [
        | inl e ↦ record { place = 0; within = omega arith; chosen = ap p (omega arith) ∙ t; passes = e }
        | inr e ↦ Shows-later p q k x xs (Shows-from_any p q (suc k) xs e)
      ]
      | inr f ↦ Shows-later p q k x xs (Shows-from_any p q (suc k) xs (rw f at h))
    ]

pub any-from_Shows : (p q : ℕ → Bool) (k : ℕ) (xs : List ℕ) (place : ℕ) → place < length xs → p (k + place) ≡ true → q (get_or xs place 0) ≡ true → list_any q (picked p k xs) ≡ true
any-from_Shows p q k [] place l c h = absurd (omega arith)
any-from_Shows p q k (x ∷ xs) zero l c h = let t : p k ≡ true = ap p (omega arith) ∙ c in rw t (or_left (q x) _ h)
any-from_Shows p q k (x ∷ xs) (suc place) l c h =
    grind (arith, suc, or_right, any-from_Shows p q (suc k) xs place (omega arith) (ap p (omega arith) ∙ c) h)

-- as many events are picked as are reached
pub length-reached : (masks counters queue parents : List ℕ) → IsSearch masks counters queue parents
    → length (picked (λ i. list_any (nat_eq i) queue) 0 (numbers_from 0 (length masks))) ≡ length queue
length-reached masks counters queue parents s =
    let P : List ℕ = picked (λ i. list_any (nat_eq i) queue) 0 (numbers_from 0 (length masks)) in
    let a : length P ≤ length queue = length-le_from_In P queue (AreDifferent-picked (λ i. list_any (nat_eq i) queue) 0 (length masks)) (λ i l.
    let h = IsPicked-from_In (λ i. list_any (nat_eq i) queue) 0 (length masks) (get_or P i 0) (record { place = i; within = l; is = refl }) in
    In-from_any queue (get_or P i 0) h.passes) in
    let b : length queue ≤ length P = grind (arith, length-le_from_In, In-from_IsPicked, length, get_or, any-from_In) in
    omega arith

-- the counters held by reached events, not the last of the list
pub held_counters : List ℕ → List ℕ → List ℕ
held_counters counters queue = map (λ i. get_or counters i 0) (drop 1 queue)

pub get_or-held : (counters queue : List ℕ) (r : ℕ) → suc r < length queue → get_or (held_counters counters queue) r 0 ≡ get_or counters (get_or queue (suc r) 0) 0
unfolding held_counters
get_or-held counters queue r l = grind (arith, get_or-map, get_or, drop, length-drop, get_or-drop)

pub length-held : (counters queue : List ℕ) → 0 < length queue → length (held_counters counters queue) + 1 ≡ length queue
unfolding held_counters
length-held counters queue l = omega (arith, length-map (drop 1 queue) (λ i. get_or counters i 0), length-drop 1 queue)

pub In-held : (counters queue : List ℕ) (counter : ℕ) → 0 < length queue → IsHeld counters queue counter → In (held_counters counters queue) counter
In-held counters queue counter some h = at h.position h.later h.reached h.is
  where
    at : (r : ℕ) → 0 < r → r < length queue → get_or counters (get_or queue r 0) 0 ≡ counter → In (held_counters counters queue) counter
    at zero lo hi e = absurd (omega arith)
    at (suc r) lo hi e = record { place = r; within = omega (arith, length-held counters queue some); is = get_or-held counters queue r hi ∙ e }

pub AreDifferent-held : (masks counters queue parents : List ℕ) → SeatsAllBut (get_or queue 0 0) masks counters → IsSearch masks counters queue parents → AreDifferent (held_counters counters queue)
AreDifferent-held masks counters queue parents a s =
    record {
      different = λ i j l m e.
          let hj : suc j < length queue = omega (arith, m, length-held counters queue s.some) in
          let hi : suc i < length queue = omega arith in
          apart (get_or queue (suc i) 0) (get_or queue (suc j) 0) (s.inside (suc i) hi) (s.inside (suc j) hj)
          (λ q. s.different 0 (suc i) (omega arith) hi (sym q)) (λ q. s.different 0 (suc j) (omega arith) hj (sym q)) (s.different (suc i) (suc j) (omega arith) hj)
          (sym (get_or-held counters queue i hi) ∙ (e ∙ get_or-held counters queue j hj));
    }
  where
    apart : (x y : ℕ) → x < length masks → y < length masks → x ≢ get_or queue 0 0 → y ≢ get_or queue 0 0 → x ≢ y → get_or counters x 0 ≢ get_or counters y 0
    apart x y lx ly nx ny ne e =
        elim (cases_order x y) [ inl q ↦ ne q | inr o ↦ elim o [ inl lt ↦ a.different x y lt (omega (arith, a.one_each)) nx ny e | inr gt ↦ a.different y x gt (omega (arith, a.one_each)) ny nx (sym e) ] ]

-- whether a reached event has the counter
pub is_wanted : List ℕ → List ℕ → ℕ → Bool
is_wanted masks queue counter = list_any (λ mask. can_count mask counter) (picked (λ i. list_any (nat_eq i) queue) 0 masks)

pub is_wanted-at : (masks queue : List ℕ) (q counter : ℕ) → q < length queue → get_or queue q 0 < length masks → can_count (get_or masks (get_or queue q 0) 0) counter ≡ true → is_wanted masks queue counter ≡ true
unfolding is_wanted
is_wanted-at masks queue q counter l i can = grind (arith, any-from_Shows, get_or, any-from_In)

pub IsHeld-wanted : (masks counters queue : List ℕ) (counter : ℕ) → IsClosedBelow (length queue) masks counters queue → is_wanted masks queue counter ≡ true → IsHeld counters queue counter
unfolding is_wanted
IsHeld-wanted masks counters queue counter c h =
    let s = Shows-from_any (λ i. list_any (nat_eq i) queue) (λ mask. can_count mask counter) 0 masks h in
    let i = In-from_any queue (0 + s.place) s.chosen in
    c.held i.place counter i.within (ap (λ k. can_count (get_or masks k 0) counter) (i.is ∙ omega arith) ∙ s.passes)

pub length-wanted : (masks counters queue parents : List ℕ) → SeatsAllBut (get_or queue 0 0) masks counters → IsSearch masks counters queue parents → IsClosedBelow (length queue) masks counters queue
    → length (picked (is_wanted masks queue) 0 (numbers_from 0 16)) ≡ length (held_counters counters queue)
length-wanted masks counters queue parents a s c =
    let A : List ℕ = picked (is_wanted masks queue) 0 (numbers_from 0 16) in
    let H : List ℕ = held_counters counters queue in
    let x : length A ≤ length H = length-le_from_In A H (AreDifferent-picked (is_wanted masks queue) 0 16) (λ i l.
    let h = IsPicked-from_In (is_wanted masks queue) 0 16 (get_or A i 0) (record { place = i; within = l; is = refl }) in
    In-held counters queue (get_or A i 0) s.some (IsHeld-wanted masks counters queue (get_or A i 0) c h.passes)) in
    let y : length H ≤ length A = length-le_from_In H A (AreDifferent-held masks counters queue parents a s) (λ i l. held_picked i l) in
    omega arith
  where
    held_picked : (i : ℕ) → i < length (held_counters counters queue) → In (picked (is_wanted masks queue) 0 (numbers_from 0 16)) (get_or (held_counters counters queue) i 0)
    held_picked i l =
        let hi : suc i < length queue = omega (arith, l, length-held counters queue s.some) in
        let earlier : get_or parents (suc i) 0 < suc i = s.earlier (suc i) (omega arith) hi in
        let lp : get_or parents (suc i) 0 < length queue = omega arith in
        let can : can_count (get_or masks (get_or queue (get_or parents (suc i) 0) 0) 0) (get_or (held_counters counters queue) i 0) ≡ true =
        ap (can_count (get_or masks (get_or queue (get_or parents (suc i) 0) 0) 0)) (get_or-held counters queue i hi) ∙ s.wanted (suc i) (omega arith) hi in
        In-from_IsPicked (is_wanted masks queue) 0 16 (get_or (held_counters counters queue) i 0)
        (record { low = omega arith; high = omega (arith, can_count-below (get_or masks (get_or queue (get_or parents (suc i) 0) 0) 0) (get_or (held_counters counters queue) i 0) can); passes = is_wanted-at masks queue (get_or parents (suc i) 0) (get_or (held_counters counters queue) i 0) lp (s.inside (get_or parents (suc i) 0) lp) can })

-- the law of tight sets, where a search is closed
pub one_fewer : (events : List (EventNo × ℕ)) (counters : List ℕ) (last : ℕ) → SeatsAllBut last (masks_of events) counters → Closed (masks_of events) counters last
    → allowed_count (masks_of (tight_set events)) + 1 ≡ length (tight_set events)
unfolding allowed_count is_wanted
one_fewer events counters last a k =
    let S : ℕ → Type 0 = λ g. SeatsAllBut g (masks_of events) counters in
    let b : SeatsAllBut (get_or k.queue 0 0) (masks_of events) counters = subst S (sym k.begins) a in
    let t : tight_set events ≡ picked (λ i. list_any (nat_eq i) k.queue) 0 events = tight_set-picked events counters k.queue k.parents b k.search k.closed in
    let members : length (tight_set events) ≡ length k.queue =
    ap length t ∙ (length-picked _ 0 events ∙ (ap (λ n. length (picked (λ i. list_any (nat_eq i) k.queue) 0 (numbers_from 0 n))) (sym (length-map events (λ e. e.1)))
    ∙ length-reached (masks_of events) counters k.queue k.parents k.search)) in
    let masks : masks_of (tight_set events) ≡ picked (λ i. list_any (nat_eq i) k.queue) 0 (masks_of events) = ap masks_of t ∙ map-picked (λ e. e.1) (λ i. list_any (nat_eq i) k.queue) 0 events in
    let wanted : allowed_count (masks_of (tight_set events)) ≡ length (held_counters counters k.queue) =
    ap allowed_count masks ∙ (count_by-picked (is_wanted (masks_of events) k.queue) 0 16 ∙ length-wanted (masks_of events) counters k.queue k.parents b k.search k.closed) in
    omega (arith, length-held counters k.queue k.search.some)

pub tight_law : TightLaw
tight_law events last fit unfit =
    let a = assignment_of (masks_of events) fit in
    let n : length (masks_of events) ≡ length events = length-map events (λ e. e.1) in
    let m : length (masks_of (events ++ last ∷ [])) ≡ length events + 1 = length-map (events ++ last ∷ []) (λ e. e.1) ∙ length_push events last in
    let s : SeatsAllBut (length (masks_of events)) (masks_of (events ++ last ∷ [])) (a.0 ++ 0 ∷ []) =
    (let P : List ℕ → Type 0 = λ ms. SeatsAllBut (length (masks_of events)) ms (a.0 ++ 0 ∷ []) in
    subst P (sym (map-append (λ (e : EventNo × ℕ). e.1) events (last ∷ []))) (SeatsAllBut-appended (masks_of events) a.0 last.1 0 a.1)) in
    one_fewer (events ++ last ∷ []) (a.0 ++ 0 ∷ []) (length (masks_of events)) s
    (closed_search (masks_of (events ++ last ∷ [])) (a.0 ++ 0 ∷ []) (length (masks_of events)) (IsStuck-unfit (masks_of (events ++ last ∷ [])) (a.0 ++ 0 ∷ []) unfit) s (omega arith))
