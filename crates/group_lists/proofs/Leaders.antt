-- A list of distinct leaders after a push and without one of them.
use Rattle.std.proofs.Common.{◌≡◌, ◌≢◌, ℕ, ◌+◌, Bool, true, false, suc, not, ◌==◌, List, [], ◌∷◌, ◌++◌, length, refl, sym, ap, ◌∙◌, subst, arith, Contains}
use Rattle.std.proofs.lemmas.{Bool.Decides.{nat_tests}, List.{Elements.{All-contains, filter_passes, Contains-get_or}, Kept.{AllPairs-filter}}}
use Rattle.std.proofs.lemmas.{List.Quantifiers.{all_pairs_push}, Map.Made.{Contains-tail}}
use Rattle.perf_base.specs.declared.numbers.Key.{Key}
use Rattle.group_lists.specs.Groups.{IsWithoutRepeats, without}

-- a leader that is not there may be pushed
pub IsWithoutRepeats-push : (leaders : List Key) (leader : Key) → IsWithoutRepeats leaders → (Contains leaders leader → ⊥) → IsWithoutRepeats (leaders ++ leader ∷ [])
IsWithoutRepeats-push leaders leader distinct new =
    all_pairs_push (λ a b. a ≢ b) leaders leader distinct (λ k d low same. new (subst (λ (x : Key). Contains leaders x) same (Contains-get_or leaders k d low)))

-- and any may be taken out
pub IsWithoutRepeats-without : (leader : Key) (leaders : List Key) → IsWithoutRepeats leaders → IsWithoutRepeats (without leader leaders)
IsWithoutRepeats-without leader leaders distinct = AllPairs-filter (λ a b. a ≢ b) (λ k. not (k.0 == leader.0)) leaders distinct

-- a number passes no test for other numbers
same_test : (n : ℕ) → not (n == n) ≡ true → ⊥
same_test n passes = grind (arith, nat_tests)

-- what is taken out is no longer there
pub without-lacks : (leader : Key) (leaders : List Key) → Contains (without leader leaders) leader → ⊥
without-lacks leader leaders there =
    same_test leader.0 (All-contains (λ k. not (k.0 == leader.0) ≡ true) (without leader leaders) leader (filter_passes (λ k. not (k.0 == leader.0)) leaders) there)

-- keys with one number are one key
same_key : (k leader : Key) → (k.0 == leader.0) ≡ true → k ≡ leader
same_key k leader test = let e : k.0 ≡ leader.0 = grind (arith, nat_tests) in ap (λ (n : ℕ). record { 0 = n }) e

-- and those with two are two
other_key : (k leader : Key) → (k.0 == leader.0) ≡ false → k ≡ leader → ⊥
other_key k leader test same = let e : k.0 ≡ leader.0 = ap (λ (x : Key). x.0) same in grind (arith, nat_tests)

-- one more leader, which is not the one to be taken out
absent_step : (same : Bool) (leader k : Key) (ks : List Key) → (k.0 == leader.0) ≡ same → (Contains (k ∷ ks) leader → ⊥) → without leader ks ≡ ks → without leader (k ∷ ks) ≡ k ∷ ks
absent_step true leader k ks test lacks rest = absurd (lacks (0, omega arith, same_key k leader test))
absent_step false leader k ks test lacks rest = rw test (ap (λ (xs : List Key). k ∷ xs) rest)

-- a list that lacks the leader stays as it is
without-absent : (leader : Key) (leaders : List Key) → (Contains leaders leader → ⊥) → without leader leaders ≡ leaders
without-absent leader [] lacks = refl
without-absent leader (k ∷ ks) lacks =
    absent_step (k.0 == leader.0) leader k ks refl lacks (without-absent leader ks (λ there. lacks (suc there.0, omega (arith, there.1), there.2)))

-- one more leader, which may be the one to be taken out
length_step : (same : Bool) (leader k : Key) (ks : List Key) → (k.0 == leader.0) ≡ same → IsWithoutRepeats (k ∷ ks) → Contains (k ∷ ks) leader
    → (Contains ks leader → length (without leader ks) + 1 ≡ length ks) → length (without leader (k ∷ ks)) + 1 ≡ length (k ∷ ks)
length_step true leader k ks test distinct there rest =
    let lacks : Contains ks leader → ⊥ =
    λ again. distinct 0 (suc again.0) leader (omega arith) (omega (arith, again.1)) (same_key k leader test ∙ sym again.2) in
    rw test (omega (arith, ap length (without-absent leader ks lacks)))
length_step false leader k ks test distinct there rest =
    rw test (omega (arith, rest (Contains-tail k ks leader (other_key k leader test) there)))

-- a list without one of its leaders is one shorter
pub length-without : (leader : Key) (leaders : List Key) → IsWithoutRepeats leaders → Contains leaders leader → length (without leader leaders) + 1 ≡ length leaders
length-without leader [] distinct there = absurd (omega (arith, there.1))
length-without leader (k ∷ ks) distinct there =
    length_step (k.0 == leader.0) leader k ks refl distinct there
    (length-without leader ks (λ i j d below low. distinct (suc i) (suc j) d (omega arith) (omega arith)))
