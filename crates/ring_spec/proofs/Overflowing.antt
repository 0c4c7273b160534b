-- How many records a stretch of work sends for one instance.
use Rattle.std.specs.Prelude.{◌≡◌, ℕ, zero, suc, ◌+◌, ◌-◌, ◌*◌, ◌/◌, ◌%◌, ◌<◌, ◌≤◌, ◌⊎◌, ◌==◌, min, Bool, true, false, length, replicate, sum_by, slice_index, Option, Some, None, cond, if◌then◌else◌}
use Rattle.std.proofs.{Common.{arith, refl, sym, ap, inl, inr}, Math.Nat.{mod-lt, lt_of_mul-lt-mul_right, mul-le-mul_left}}
use Rattle.std.proofs.lemmas.{Nat.{div-add-mod'}, Bool.{false≢true, cases_lt, Decides.{nat_tests}}, List.{get_or_past, Sums.{get_or-le-sum_by}}}
use Rattle.perf_base.specs.{declared.{numbers.{CpuNo.{CpuNo}, RingNo.{RingNo}}, attr.{Attr.{Attr}, Kind.{Kind}}, lines.Work.{Work}}, Weight.{shares}}
use Rattle.perf_base.specs.declared.attr.Kind.TheVariants as kind
use Rattle.stage_spec.specs.{declared.instance.Instance.{Instance}, Stage.{Stage}, Hardware.{is_software}, Shares.{excludes, counted_by}}
use Rattle.stage_spec.specs.Occurrences.{left_after_one, overflows}
use Rattle.ring_spec.specs.Sending.{SentSample, to_ring, sent_by_family, overflows_by}

-- Each overflow takes a whole period of occurrences, but for the first, which takes what was left.
filled : (n p l : ℕ) → 0 < p → overflows n p l * p + min l p ≤ n + p
unfolding overflows
filled zero p l pos = omega arith
filled (suc n) p l pos = one (l - 1 == 0) refl (λ k. filled n p k pos)
  where
    one : (b : Bool) → (l - 1 == 0) ≡ b → ((k : ℕ) → overflows n p k * p + min k p ≤ n + p)
        → ((if p == 0 then 0 else if b then 1 else 0) + overflows n p (if b then p else l - 1)) * p + min l p ≤ suc n + p
    one true e rest =
        let low : l ≤ 1 = grind (arith, nat_tests, e) in
        let some : (p == 0) ≡ false = grind (arith, nat_tests, pos) in
        rw some (omega (arith, rest p, low))
    one false e rest =
        let high : 2 ≤ l = grind (arith, nat_tests, e) in
        let some : (p == 0) ≡ false = grind (arith, nat_tests, pos) in
        rw some (omega (arith, rest (l - 1), high))

zero_is_one : (n p : ℕ) → overflows n p 0 ≡ overflows n p 1
unfolding overflows
zero_is_one zero p = refl
zero_is_one (suc n) p = refl

below : (n p l : ℕ) → 0 < p → overflows n p l * p < n + p
below n p zero pos = rw (zero_is_one n p) (omega (arith, filled n p 1 pos))
below n p (suc l) pos = omega (arith, filled n p (suc l) pos)

pub none_by : (n l : ℕ) → overflows n 0 l ≡ 0
unfolding overflows
none_by zero l = refl
none_by (suc n) l = omega (arith, none_by n (left_after_one 0 l))

-- shares are enough
covers : (period hits : ℕ) → 0 < period → hits ≤ shares period hits * period
covers period hits pos = one (hits / period) (hits % period) (div-add-mod' hits period) (mod-lt hits pos)
  where
    one : (q r : ℕ) → q * period + r ≡ hits → r < period → hits ≤ (q + min 1 r) * period
    one q zero e l = omega (arith, e)
    one q (suc r) e l =
        let full : min 1 (suc r) ≡ 1 = omega arith in
        rw full (omega (arith, e, l))

fits_below : (period hits k : ℕ) → 0 < period → k * period < hits → k < shares period hits
fits_below period hits k pos h = lt_of_mul-lt-mul_right period (omega (arith, h, covers period hits pos))

few_by : (period p hits v : ℕ) → 0 < period → period ≤ p → v * p < hits + p → v ≤ shares period hits
few_by period p hits zero pos le h = omega arith
few_by period p hits (suc k) pos le h =
    let less : k * period ≤ k * p = mul-le-mul_left k le in
    fits_below period hits k pos (omega (arith, less, h))

pub few_overflows : (period p hits left : ℕ) → 0 < period → (p ≡ 0) ⊎ (period ≤ p) → overflows hits p left ≤ shares period hits
few_overflows period p hits left pos (inl e) = rw (e, none_by hits left) (omega arith)
few_overflows period p hits left pos (inr le) = few_by period p hits (overflows hits p left) pos le (below hits p left (omega arith))

-- so for one instance, whose family samples or not
pub record IsSampling (period : ℕ) (samples : Bool) (i : Instance) : Type 0 where
  pub hardware : samples ≡ true → is_software i.attr.kind ≡ false
  pub none : samples ≡ false → i.attr.period ≡ 0
  pub least : (i.attr.period ≡ 0) ⊎ (period ≤ i.attr.period)

abbrev room : Bool → ℕ → ℕ
room samples n = cond samples n 0

hits-few : (period : ℕ) (w : Work) (a : Attr) (k : Kind) (left : ℕ) → 0 < period → (a.period ≡ 0) ⊎ (period ≤ a.period) → is_software k ≡ false
    → overflows (counted_by w a k) a.period left ≤ sum_by (shares period) w.hits
unfolding overflows
hits-few period w a (kind.Hard n) left pos least soft = one (excludes w.mode a)
  where
    within : overflows (slice_index w.hits n) a.period left ≤ sum_by (shares period) w.hits
    within = elim (cases_lt n (length w.hits)) [
      | inl l ↦ omega (arith, few_overflows period a.period (slice_index w.hits n) left pos least, get_or-le-sum_by (shares period) w.hits n 0 l)
      | inr l ↦ rw (get_or_past w.hits n 0 l) (omega arith)
    ]

    one : (b : Bool) → overflows (if b then 0 else slice_index w.hits n) a.period left ≤ sum_by (shares period) w.hits
    one true = omega arith
    one false = within
hits-few period w a kind.ContextSwitches left pos least soft = absurd (false≢true (sym soft))
hits-few period w a kind.CpuMigrations left pos least soft = absurd (false≢true (sym soft))
hits-few period w a kind.TaskClock left pos least soft = absurd (false≢true (sym soft))
hits-few period w a kind.Dummy left pos least soft = absurd (false≢true (sym soft))

instance-few : (period : ℕ) (w : Work) (i : Instance) (left : ℕ) (samples : Bool) → 0 < period → IsSampling period samples i
    → overflows_by w left i ≤ room samples (sum_by (shares period) w.hits)
instance-few period w i left true pos h = hits-few period w i.attr i.attr.kind left pos h.least (h.hardware refl)
instance-few period w i left false pos h = grind (arith, nat_tests, none_by)

length-repeat : (n : ℕ) (sent : RingNo × SentSample) → length (replicate n sent) ≡ n
length-repeat zero sent = refl
length-repeat (suc n) sent = ap suc (length-repeat n sent)

sent-most : (ring : Option RingNo) (n : ℕ) (sent : SentSample) → length (to_ring ring n sent) ≤ n
sent-most None n sent = omega arith
sent-most (Some ring) n sent = omega (arith, length-repeat n (ring, sent))

pub family-few : (period : ℕ) (original : Option Instance) (s : Stage) (cpu : CpuNo) (w : Work) (clock left : ℕ) (i : Instance) (samples : Bool) → 0 < period → IsSampling period samples i
    → length (sent_by_family original s cpu w clock (overflows_by w left i) i) ≤ room samples (sum_by (shares period) w.hits)
family-few period None s cpu w clock left i samples pos h = omega arith
family-few period (Some original) s cpu w clock left i samples pos h = grind (arith, nat_tests, instance-few, sent-most)
