-- How often keys stand in lists that are put together, and sums over lists with the same keys.
use Rattle.std.specs.Prelude.{◌≡◌, ℕ, zero, suc, ◌+◌, ◌<◌, ◌≤◌, ◌==◌, Bool, true, false, ◌||◌, cond, List, [], ◌∷◌, ◌++◌, length, map, filter, find, flat_map, is_some, Some, None, option_map, slice_index_or}
use Rattle.std.{specs.List.{list_any}, proofs.{Common.{arith, refl, sym, ap, ◌∙◌, inl, inr}, lemmas.Bool.{cases_eq, cases_Bool, false≢true}}}
use Rattle.std.proofs.lemmas.Bool.Decides.{nat_tests}
use Rattle.perf_base.specs.declared.numbers.Key.{Key}
use Rattle.stage_laws.proofs.Counts.{count-append}
use Rattle.stage_laws.proofs.Totals.{total, one_if, total-nil, total-cons, total-append, total-flat_map, total-same, count_by-is-total}
use Rattle.world_spec.specs.{Value.{is_key, times}, Kept.{once_if}}
use Rattle.world_spec.proofs.Keys.{key-is, is_key-same, is_key-other, is_key-true, times-cons, once-true, once-false}

pub times-flat : {X : Type 0} (k : Key) (f : X → List Key) (xs : List X) → times k (flat_map f xs) ≡ total (λ x. times k (f x)) xs
times-flat k f xs = grind (arith, nat_tests, count_by-is-total, total-flat_map, one_if, total-same, total)

-- a number that is 1 at one place and 0 at the others
pub spread-none : {X : Type 0} (f : X → ℕ) (d : X) (xs : List X) (from q : ℕ) → ((p : ℕ) → p < length xs → f (slice_index_or xs p d) ≡ once_if (from + p == q)) → q < from → total f xs ≡ 0
spread-none f d [] from q h past = total-nil f
spread-none f d (x ∷ xs) from q h past =
    let off : (from + 0 == q) ≡ false = grind (arith, nat_tests, past) in
    let first : f x ≡ 0 = h zero (omega arith) ∙ once-false (from + 0 == q) off in
    let rest : total f xs ≡ 0 = spread-none f d xs (from + 1) q
    (λ p low. let next : from + suc p ≡ from + 1 + p = omega arith in h (suc p) (omega (arith, low)) ∙ ap (λ n. once_if (n == q)) next) (omega (arith, past)) in
    omega (arith, total-cons f x xs, first, rest)

pub spread-one : {X : Type 0} (f : X → ℕ) (d : X) (xs : List X) (from q : ℕ) → ((p : ℕ) → p < length xs → f (slice_index_or xs p d) ≡ once_if (from + p == q)) → from ≤ q → q < from + length xs
    → total f xs ≡ 1
spread-one f d [] from q h low high = absurd (omega (arith, low, high))
spread-one f d (x ∷ xs) from q h low high =
    let rest : (p : ℕ) → p < length xs → f (slice_index_or xs p d) ≡ once_if (from + 1 + p == q) =
    λ p below. (let next : from + suc p ≡ from + 1 + p = omega arith in h (suc p) (omega (arith, below)) ∙ ap (λ n. once_if (n == q)) next) in
    elim (cases_eq from q) [
      | inl e ↦
          let on : (from + 0 == q) ≡ true = grind (arith, nat_tests, e) in
          omega (arith, total-cons f x xs, h zero (omega arith), once-true (from + 0 == q) on, spread-none f d xs (from + 1) q rest (omega (arith, e)))
      | inr apart ↦
          let off : (from + 0 == q) ≡ false = grind (arith, nat_tests, apart) in
          omega (arith, total-cons f x xs, h zero (omega arith), once-false (from + 0 == q) off, spread-one f d xs (from + 1) q rest (omega (arith, low, apart)) (omega (arith, high)))
    ]

-- a number that is 0 at each place
pub spread-zero : {X : Type 0} (f : X → ℕ) (d : X) (xs : List X) → ((p : ℕ) → p < length xs → f (slice_index_or xs p d) ≡ 0) → total f xs ≡ 0
spread-zero f d xs h = spread-none f d xs 1 0 (λ p low. let off : (1 + p == 0) ≡ false = grind (arith, nat_tests) in h p low ∙ sym (once-false (1 + p == 0) off)) (omega arith)

-- two lists in which each key stands as often
abbrev pub AreSameKeys : List Key → List Key → Type 0
AreSameKeys xs ys = (k : Key) → times k xs ≡ times k ys

record Split (k : Key) (keys : List Key) : Type 0 where
  before : List Key
  after : List Key
  is : keys ≡ before ++ k ∷ after

split : (k : Key) (keys : List Key) → 1 ≤ times k keys → Split k keys
split k [] some = absurd (omega (arith, some))
split k (q ∷ keys) some = elim (cases_eq q.0 k.0) [
  | inl e ↦ record { before = []; after = keys; is = ap (λ x. x ∷ keys) (key-is q k e) }
  | inr apart ↦
      let s : Split k keys = split k keys (omega (arith, some, times-cons k q keys, once-false (is_key k q) (is_key-other k q apart))) in
      record { before = q ∷ s.before; after = s.after; is = ap (λ xs. q ∷ xs) s.is }
]

pub same-total : (f : Key → ℕ) (xs ys : List Key) → AreSameKeys xs ys → total f xs ≡ total f ys
same-total f [] [] h = refl
same-total f [] (y ∷ ys) h = absurd (omega (arith, h y, times-cons y y ys, once-true (is_key y y) (is_key-same y y refl)))
same-total f (x ∷ xs) ys h =
    let s : Split x ys = split x ys (omega (arith, h x, times-cons x x xs, once-true (is_key x x) (is_key-same x x refl))) in
    let rest : AreSameKeys xs (s.before ++ s.after) = λ k.
    omega (
      arith,
      h k,
      times-cons k x xs,
      ap (times k) s.is,
      count-append (is_key k) s.before (x ∷ s.after),
      times-cons k x s.after,
      count-append (is_key k) s.before s.after,
    ) in
    grind (arith, nat_tests, total-cons, rest, total-append, total, same-total f xs (s.before ++ s.after) rest)

-- keys that pass a test
one-filtered : (passes it_passes same : Bool) (r t : ℕ) → (same ≡ true → passes ≡ it_passes) → r ≡ cond it_passes t 0 → cond passes (once_if same + r) r ≡ cond it_passes (once_if same + t) 0
one-filtered true true same r t h e = omega (arith, e)
one-filtered true false true r t h e = absurd (let x : true ≡ false = h refl in cc)
one-filtered true false false r t h e = omega (arith, e)
one-filtered false true true r t h e = absurd (let x : false ≡ true = h refl in cc)
one-filtered false true false r t h e = omega (arith, e)
one-filtered false false same r t h e = omega (arith, e)

times-chosen : (k q : Key) (b : Bool) (rest : List Key) → times k (cond b (q ∷ rest) rest) ≡ cond b (once_if (is_key k q) + times k rest) (times k rest)
times-chosen k q true rest = times-cons k q rest
times-chosen k q false rest = refl

nothing : (b : Bool) → ◌≡◌ {A = ℕ} 0 (cond b 0 0)
nothing true = refl
nothing false = refl

pub times-filter : (k : Key) (p : Key → Bool) (keys : List Key) → times k (filter p keys) ≡ cond (p k) (times k keys) 0
times-filter k p [] = nothing (p k)
times-filter k p (q ∷ keys) =
    times-chosen k q (p q) (filter p keys)
    ∙ (one-filtered (p q) (p k) (is_key k q) (times k (filter p keys)) (times k keys) (λ same. ap p (key-is q k (is_key-true k q same))) (times-filter k p keys)
    ∙ ap (λ n. cond (p k) n 0) (sym (times-cons k q keys)))

-- the first that passes a test that one key alone passes
find-first : (test : Key → Bool) (q : Key) (keys : List Key) (b : Bool) → test q ≡ b → find test (q ∷ keys) ≡ cond b (Some q) (find test keys)
find-first test q keys true e = rw e refl
find-first test q keys false e = rw e refl

pub find-one : (test : Key → Bool) (keys : List Key) (k : Key) → test k ≡ true → 1 ≤ times k keys → ((q : Key) → 1 ≤ times q keys → test q ≡ true → q.0 ≡ k.0) → find test keys ≡ Some k
find-one test [] k passes some alone = absurd (omega (arith, some))
find-one test (q ∷ keys) k passes some alone = elim (cases_Bool (test q)) [
  | inl e ↦ grind (arith, times-cons q q keys, once-true (is_key q q) (is_key-same q q refl))
  | inr e ↦
      let apart : q.0 ≡ k.0 → ⊥ = λ is. false≢true (sym e ∙ (ap test (key-is q k is) ∙ passes)) in
      find-first test q keys false e ∙ find-one test keys k passes (omega (arith, some, times-cons k q keys, once-false (is_key k q) (is_key-other k q apart)))
      (λ j there. alone j (omega (arith, there, times-cons j q keys)))
]

pub find-none : (test : Key → Bool) (keys : List Key) → ((q : Key) → 1 ≤ times q keys → test q ≡ true → ⊥) → find test keys ≡ None
find-none test [] none = refl
find-none test (q ∷ keys) none = elim (cases_Bool (test q)) [
  | inl e ↦ absurd (none q (omega (arith, times-cons q q keys, once-true (is_key q q) (is_key-same q q refl))) e)
  | inr e ↦ find-first test q keys false e ∙ find-none test keys (λ j there. none j (omega (arith, there, times-cons j q keys)))
]

pub find-mapped : {X : Type 0} (p : X → Bool) (f : Key → X) (keys : List Key) → find p (map f keys) ≡ option_map f (find (λ k. p (f k)) keys)
find-mapped p f [] = refl
find-mapped p f (k ∷ keys) = grind (arith, nat_tests, find-mapped p f keys)

-- whether some item passes a test
pub any-find : {X : Type 0} (p : X → Bool) (xs : List X) → list_any p xs ≡ is_some (find p xs)
any-find p [] = refl
any-find p (x ∷ xs) = grind (arith, nat_tests, any-find p xs)

pub any-there : {X : Type 0} (p : X → Bool) (f : Key → X) (k : Key) (keys : List Key) → 1 ≤ times k keys → p (f k) ≡ true → list_any p (map f keys) ≡ true
any-there p f k [] some passes = absurd (omega (arith, some))
any-there p f k (q ∷ keys) some passes = elim (cases_Bool (p (f q))) [
  | inl e ↦ rw e refl
  | inr e ↦
      let apart : q.0 ≡ k.0 → ⊥ = λ is. false≢true (sym e ∙ (ap (λ x. p (f x)) (key-is q k is) ∙ passes)) in
      rw e (any-there p f k keys (omega (arith, some, times-cons k q keys, once-false (is_key k q) (is_key-other k q apart))) passes)
]

pub any-rest : (a b : Bool) → a ≡ false → (a || b) ≡ true → b ≡ true
any-rest true b off h = absurd (false≢true (sym off))
any-rest false b off h = h

pub any-key : {X : Type 0} (p : X → Bool) (f : Key → X) (keys : List Key) → list_any p (map f keys) ≡ true → (k : Key) × (1 ≤ times k keys) × (p (f k) ≡ true)
any-key p f [] h = absurd (false≢true h)
any-key p f (q ∷ keys) h = elim (cases_Bool (p (f q))) [
  | inl e ↦ (q, omega (arith, times-cons q q keys, once-true (is_key q q) (is_key-same q q refl)), e)
  | inr e ↦ grind (arith, nat_tests, any-rest, e, times-cons, any-key p f keys (any-rest (p (f q)) (list_any p (map f keys)) e h))
]
