-- There are at most 256 originals: one in each slot.
use Rattle.std.{specs.Prelude.{◌≡◌, ℕ, zero, suc, ◌+◌, ◌<◌, ◌≤◌, nat_le, nat_lt, Bool, true, false, not, ◌&&◌, List}, proofs.Common.{arith}}
use Rattle.std.proofs.lemmas.Bool.Decides.{nat_tests}
use Rattle.perf_base.specs.declared.numbers.EventNo.{EventNo}
use Rattle.stage_spec.specs.{declared.instance.Instance.{Instance}, Stage.{all_instances, is_original}}
use Rattle.stage_laws.specs.Reachable.{FewOriginalsLaw}
use Rattle.stage_laws.proofs.Totals.{total, total-same, total-le, total-plus, total-none, one_if, as_number, count_by-is-total, total-by_All}
use Rattle.stage_laws.proofs.Numbered.{is_outside, inside}

-- an original of a slot below a number
abbrev is_below : ℕ → Instance → Bool
is_below n i = nat_lt i.event.0 n && not i.copy

none_below : (e : ℕ) (b : Bool) → as_number (nat_lt e 0 && b) ≡ 0
none_below e b = grind (arith, nat_tests)

few_below : (xs : List Instance) → ((e : EventNo) → total (one_if (is_original e)) xs ≤ 1) → (n : ℕ) → total (one_if (is_below n)) xs ≤ n
few_below xs h zero = omega (arith, total-same (one_if (is_below 0)) (λ i. 0) (λ i. none_below i.event.0 (not i.copy)) xs, total-none xs)
few_below xs h (suc n) =
    let slot : EventNo = record { 0 = n } in
    grind (arith, total-plus (one_if (is_below n)) (one_if (is_original slot)) xs, few_below xs h n, h slot)

below_or_outside : (e : ℕ) (b : Bool) → as_number b ≤ as_number (nat_lt e 256 && b) + as_number (nat_le 256 e)
below_or_outside e true = grind (arith, nat_tests)
below_or_outside e false = omega arith

pub few_originals : FewOriginalsLaw
few_originals s h =
    let xs : List Instance = all_instances s in
    let each : (e : EventNo) → total (one_if (is_original e)) xs ≤ 1 = λ e. omega (arith, count_by-is-total (is_original e) xs, h.one_original e) in
    let outside : total (one_if is_outside) xs ≡ 0 = total-by_All (one_if is_outside) (λ i. i.event.0 < 256) inside xs h.slots in
    omega (
      arith,
      count_by-is-total (λ i. not i.copy) xs,
      total-le (one_if (λ i. not i.copy)) (λ i. one_if (is_below 256) i + one_if is_outside i) (λ i. below_or_outside i.event.0 (not i.copy)) xs,
      total-plus (one_if (is_below 256)) (one_if is_outside) xs,
      few_below xs each 256,
      outside,
    )
