-- How often a key stands in a list, where it stands, and how long the list is without it.
use Rattle.std.{specs.Prelude.{◌≡◌, ◌+◌, ◌≤◌, not, cond, List, [], ◌∷◌, length, Contains}, proofs.Common.{arith, refl, ap, inl, inr, zero, suc}}
use Rattle.std.proofs.lemmas.Bool.{cases_Bool}
use Rattle.perf_base.specs.declared.numbers.Key.{Key}
use Rattle.world_spec.specs.{Value.{is_key, times}, Changes.{all_but}}
use Rattle.world_spec.proofs.Keys.{key-is, is_key-true, is_key-same, times-cons, once-true, once-false}

pub times_contains : (k : Key) (keys : List Key) → times k keys ≡ 1 → Contains keys k
times_contains k [] h = absurd (omega (arith, h))
times_contains k (q ∷ keys) h = elim (cases_Bool (is_key k q)) [
  | inl e ↦ (0, omega arith, key-is q k (is_key-true k q e))
  | inr e ↦
      let rest = times_contains k keys (omega (arith, h, times-cons k q keys, once-false (is_key k q) e)) in
      (suc rest.0, omega (arith, rest.1), rest.2)
]

pub times_there : (k : Key) (keys : List Key) → Contains keys k → 1 ≤ times k keys
times_there k [] h = absurd (omega (arith, h.1))
times_there k (q ∷ keys) (zero, low, same) = omega (arith, times-cons k q keys, once-true (is_key k q) (is_key-same k q (ap (λ x. x.0) same)))
times_there k (q ∷ keys) (suc n, low, same) = omega (arith, times-cons k q keys, times_there k keys (n, omega (arith, low), same))

pub times_lacks : (k : Key) (keys : List Key) → times k keys ≡ 0 → Contains keys k → ⊥
times_lacks k keys none there = absurd (omega (arith, none, times_there k keys there))

pub length_all_but : (k : Key) (keys : List Key) → length (all_but k keys) + times k keys ≡ length keys
length_all_but k [] = refl
length_all_but k (q ∷ keys) = elim (cases_Bool (is_key k q)) [
  | inl e ↦
      let gone : all_but k (q ∷ keys) ≡ all_but k keys = ap {B = List Key} (λ b. cond (not b) (q ∷ all_but k keys) (all_but k keys)) e in
      omega (arith, ap length gone, times-cons k q keys, once-true (is_key k q) e, length_all_but k keys)
  | inr e ↦ grind (arith, e, times-cons, once-false, length_all_but k keys)
]
