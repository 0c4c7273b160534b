-- Occurrences that are taken one by one, against division.
use Rattle.std.proofs.{Common.{◌≡◌, ℕ, ◌+◌, ◌-◌, ◌*◌, ◌/◌, ◌%◌, ◌<◌, ◌≤◌, zero, suc, refl, sym, arith}, lemmas.Bool.Decides.{nat_tests}}
use Rattle.std.proofs.lemmas.Nat.{div-mul-add, mod-mul-add}
use Rattle.stage_spec.specs.Occurrences.{left_after_one, overflows_of_one, left_after, overflows}

-- one occurrence keeps a remainder within its period
one_within : (period left : ℕ) → 0 < left → left ≤ period → (0 < left_after_one period left) × (left_after_one period left ≤ period)
one_within period left some most = grind (arith, nat_tests)

-- one occurrence and what it leaves are the old remainder, and a whole period where it gives an overflow
one_kept : (period left : ℕ) → 0 < left → left ≤ period → left_after_one period left + 1 ≡ left + period * overflows_of_one period left
one_kept period left some most = grind (arith, nat_tests)

-- a remainder stays within its period
pub left_after-within : (n period left : ℕ) → 0 < left → left ≤ period → (0 < left_after n period left) × (left_after n period left ≤ period)
unfolding left_after
left_after-within zero period left some most = (some, most)
left_after-within (suc n) period left some most =
    let one : (0 < left_after_one period left) × (left_after_one period left ≤ period) = one_within period left some most in
    left_after-within n period (left_after_one period left) one.0 one.1

-- the occurrences and what they leave of the remainder are the old remainder and a whole period for each overflow
pub left_after-kept : (n period left : ℕ) → 0 < left → left ≤ period → left_after n period left + n ≡ left + period * overflows n period left
unfolding left_after overflows
left_after-kept zero period left some most = omega arith
left_after-kept (suc n) period left some most =
    let one : (0 < left_after_one period left) × (left_after_one period left ≤ period) = one_within period left some most in
    omega (arith, one_kept period left some most, left_after-kept n period (left_after_one period left) one.0 one.1)

-- fewer occurrences than were left end no period
no_period_over : (over period left n rest : ℕ) → rest + n ≡ left + period * over → rest ≤ period → n < left → over ≡ 0
no_period_over zero period left n rest kept most low = refl
no_period_over (suc k) period left n rest kept most low = absurd (omega arith)

-- occurrences past the remainder end as many periods as division says
periods_over : (over period past rest : ℕ) → rest + past ≡ period * over → 0 < rest → rest ≤ period → (past / period + 1 ≡ over) × (period - past % period ≡ rest)
periods_over zero period past rest kept some most = absurd (omega arith)
periods_over (suc k) period past rest kept some most =
    let shape : past ≡ k * period + (period - rest) = omega arith in
    let quotient : (k * period + (period - rest)) / period ≡ k = div-mul-add k period (period - rest) (omega arith) in
    let remainder : (k * period + (period - rest)) % period ≡ period - rest = mod-mul-add k period (period - rest) (omega arith) in
    rw shape (omega (arith, quotient), omega (arith, remainder))

-- without a period there stays no remainder
pub left_after-no_period : (n left : ℕ) → left ≤ 0 → left_after n 0 left ≡ left
unfolding left_after
left_after-no_period zero left most = refl
left_after-no_period (suc n) zero most = left_after-no_period n 0 most
left_after-no_period (suc n) (suc left) most = absurd (omega arith)

-- without a period there is no overflow
pub overflows-no_period : (n left : ℕ) → left ≤ 0 → overflows n 0 left ≡ 0
unfolding overflows
overflows-no_period zero left most = refl
overflows-no_period (suc n) zero most = omega (arith, overflows-no_period n 0 most)
overflows-no_period (suc n) (suc left) most = absurd (omega arith)

-- a burst that is smaller than the remainder gives no overflow
pub overflows-within : (n period left : ℕ) → n < left → left ≤ period → overflows n period left ≡ 0
overflows-within n period left low most =
    let some : 0 < left = omega arith in
    let rest : (0 < left_after n period left) × (left_after n period left ≤ period) = left_after-within n period left some most in
    no_period_over (overflows n period left) period left n (left_after n period left) (left_after-kept n period left some most) rest.1 low

-- and only lessens it
pub left_after-burst_within : (n period left : ℕ) → n < left → left ≤ period → left_after n period left ≡ left - n
left_after-burst_within n period left low most =
    let kept = left_after-kept n period left (omega arith) most in
    omega (arith, rw (overflows-within n period left low most) at kept)

-- a burst that uses up the remainder, against division
burst_past : (n period left : ℕ) → 0 < left → left ≤ period → left ≤ n
    → ((n - left) / period + 1 ≡ overflows n period left) × (period - (n - left) % period ≡ left_after n period left)
burst_past n period left some most past =
    let rest : (0 < left_after n period left) × (left_after n period left ≤ period) = left_after-within n period left some most in
    periods_over (overflows n period left) period (n - left) (left_after n period left) (omega (arith, left_after-kept n period left some most)) rest.0 rest.1

-- a burst that uses up the remainder gives one overflow and one more for each whole period in its rest
pub overflows-past : (n period left : ℕ) → 0 < left → left ≤ period → left ≤ n → overflows n period left ≡ (n - left) / period + 1
overflows-past n period left some most past = sym (burst_past n period left some most past).0

-- and leaves what the rest of its rest lacks of a period
pub left_after-past : (n period left : ℕ) → 0 < left → left ≤ period → left ≤ n → left_after n period left ≡ period - (n - left) % period
left_after-past n period left some most past = sym (burst_past n period left some most past).1

-- what `hit` computes by division
pub ruleset bursts = (left_after-no_period, overflows-no_period, left_after-burst_within, overflows-within, left_after-past, overflows-past)
