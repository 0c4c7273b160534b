-- How often keys stand in lists that grow, shrink and turn, and lists at a place that was written.
use Rattle.std.specs.Prelude.{◌≡◌, ℕ, ◌+◌, ◌<◌, Bool, true, false, not, cond, List, [], ◌∷◌, ◌++◌, length, slice_index_or, slice_set}
use Rattle.std.proofs.{Common.{arith, refl, sym, ap, subst, ◌∙◌, inl, inr, get_or-set_other, get_or-set_same}, lemmas.Bool.{cases_eq, cases_Bool}}
use Rattle.std.proofs.lemmas.Bool.Decides.{nat_tests}
use Rattle.perf_base.specs.declared.numbers.Key.{Key}
use Rattle.stage_laws.proofs.Counts.{count-cons, count-append}
use Rattle.world_spec.specs.{Value.{is_key, times}, Kept.{once_if}, Changes.{all_but, to_last}}

-- a key is its number
pub key-is : (q k : Key) → q.0 ≡ k.0 → q ≡ k
key-is q k e = λ i. record { 0 = e i }

pub is_key-same : (k q : Key) → q.0 ≡ k.0 → is_key k q ≡ true
is_key-same k q e = grind (arith, nat_tests, e)

pub is_key-other : (k q : Key) → (q.0 ≡ k.0 → ⊥) → is_key k q ≡ false
is_key-other k q apart = grind (arith, nat_tests, apart)

pub is_key-true : (k q : Key) → is_key k q ≡ true → q.0 ≡ k.0
is_key-true k q h = grind (arith, nat_tests, h)

pub is_key-false : (k q : Key) → is_key k q ≡ false → q.0 ≡ k.0 → ⊥
is_key-false k q h e = grind (arith, nat_tests, h, e)

pub is_key-turned : (k q : Key) → is_key k q ≡ is_key q k
is_key-turned k q = grind (arith, nat_tests, is_key-same, is_key-other)

-- how often a key stands
pub times-cons : (j k : Key) (keys : List Key) → times j (k ∷ keys) ≡ once_if (is_key j k) + times j keys
times-cons j k keys = count-cons (is_key j) k keys

pub times-push : (j : Key) (keys : List Key) (k : Key) → times j (keys ++ k ∷ []) ≡ times j keys + once_if (is_key j k)
times-push j keys k = omega (arith, count-append (is_key j) keys (k ∷ []), times-cons j k [])

pub once-true : (b : Bool) → b ≡ true → once_if b ≡ 1
once-true b h = ap {B = ℕ} (λ c. cond c 1 0) h

pub once-false : (b : Bool) → b ≡ false → once_if b ≡ 0
once-false b h = ap {B = ℕ} (λ c. cond c 1 0) h

-- all but one key
pub all_but-cons : (k q : Key) (keys : List Key) (b : Bool) → is_key k q ≡ b → all_but k (q ∷ keys) ≡ cond (not b) (q ∷ all_but k keys) (all_but k keys)
all_but-cons k q keys b h = ap {B = List Key} (λ c. cond (not c) (q ∷ all_but k keys) (all_but k keys)) h

pub times-all_but_same : (k : Key) (keys : List Key) → times k (all_but k keys) ≡ 0
times-all_but_same k [] = refl
times-all_but_same k (q ∷ keys) = grind (arith, nat_tests, all_but-cons, times-cons, once-false, times-all_but_same k keys)

pub times-all_but_other : (j k : Key) → (j.0 ≡ k.0 → ⊥) → (keys : List Key) → times j (all_but k keys) ≡ times j keys
times-all_but_other j k apart [] = refl
times-all_but_other j k apart (q ∷ keys) = elim (cases_Bool (is_key k q)) [
  | inl e ↦ grind (arith, nat_tests, once-false, is_key-other, is_key-true, e, all_but-cons, times-cons, times-all_but_other j k apart keys)
  | inr e ↦ ap (times j) (all_but-cons k q keys false e) ∙ omega (arith, times-cons j q (all_but k keys), times-cons j q keys, times-all_but_other j k apart keys)
]

pub all_but-none : (k : Key) (keys : List Key) → times k keys ≡ 0 → all_but k keys ≡ keys
all_but-none k [] h = refl
all_but-none k (q ∷ keys) h = elim (cases_Bool (is_key k q)) [
  | inl e ↦ absurd (omega (arith, h, times-cons k q keys, once-true (is_key k q) e))
  | inr e ↦ all_but-cons k q keys false e ∙ ap (λ ks. q ∷ ks) (all_but-none k keys (omega (arith, h, times-cons k q keys)))
]

-- one key taken to the end of a list that it stands in once
pub times-to_last : (j k : Key) (keys : List Key) → times k keys ≡ 1 → times j (to_last k keys) ≡ times j keys
times-to_last j k keys once = elim (cases_eq j.0 k.0) [
  | inl e ↦ grind (arith, times-push k (all_but k keys) k, times-all_but_same k keys, once-true (is_key k k) (is_key-same k k refl), key-is j k e)
  | inr apart ↦
      omega (arith, times-push j (all_but k keys) k, times-all_but_other j k apart keys, once-false (is_key j k) (is_key-other j k (λ e. apart (sym e))))
]

-- what holds at each place of a list, after one place was written
pub at_place : {X : Type 0} (P : X → Type 0) (xs : List X) (i : ℕ) (v d : X) (p : ℕ) → i < length xs → (p ≡ i → P v) → ((p ≡ i → ⊥) → P (slice_index_or xs p d))
    → P (slice_index_or (slice_set xs i v) p d)
at_place P xs i v d p within here there = elim (cases_eq p i) [
  | inl e ↦ subst P (sym (ap (λ n. slice_index_or (slice_set xs i v) n d) e ∙ get_or-set_same xs i v d within)) (here e)
  | inr apart ↦ subst P (sym (get_or-set_other xs i p v d apart)) (there apart)
]
