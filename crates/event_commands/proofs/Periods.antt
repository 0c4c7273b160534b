-- A new period of an original: for what it is refused, what it is on the stage, and that processors stand as they
-- stood.
use Rattle.std.specs.Prelude.{◌≡◌, ◌≢◌, ℕ, ◌^◌, ◌<◌, ◌≤◌, ◌==◌, Bool, true, false, not, ◌||◌, bit_and, [], ◌∷◌, Option, Some, None, is_some, length, option_map}
use Rattle.std.{proofs.{Common.{arith, refl, sym, ap, ◌∙◌}, lemmas.Bool.{false≢true, Decides.{nat_tests}}}}
use Rattle.perf_base.specs.declared.{numbers.{CpuNo.{CpuNo}, EventNo.{EventNo}, Key.{Key}}, reasons.Reason.{Reason}}
use Rattle.perf_base.specs.declared.reasons.Reason.TheVariants as reason
use Rattle.stage_spec.specs.{Commands.{period_refusal, with_period}, Hardware.{Hardware}, Refusals.{first_of, holds_of}}
use Rattle.stage_laws.{proofs.{OneByOne.{period-one}, Untouched.{period-briefs}}, specs.{Narrowing.{has_context}, OneByOne.{change_one}}}
use Rattle.stage_laws.specs.Standings.{briefs}
use Rattle.world_spec.specs.{Value.{World, is_live, instance_at, standing_at, seats_at, family_of}, StageOf.{stage_of}}
use Rattle.world_spec.{specs.{Kept.{leads, post_at, IsKept}, Changes.{set_period}, Rescheduled.{IsUntouched}}, proofs.Families.{open-is, original-is}}
use Rattle.world_spec.proofs.{Listings.{is-numbered}, Standing.{left-untouched}, Tables.{get-here, get-there, posts-same, same_number, other_number}}
use Rattle.event_commands.specs.Commands.{HasPeriod}

-- the first of the three reasons
abbrev by_checks : Bool → Bool → Bool → Option Reason
by_checks closed still no_period = first_of ((reason.NoEvent, closed) ∷ (reason.NotSampling, still) ∷ (reason.ZeroPeriod, no_period) ∷ [])

abbrev pub no_period : ℕ → Bool
no_period period = period == 0 || not (bit_and period (2 ^ 63) == 0)

checks-are : (hw : Hardware) (w : World) (e : EventNo) (period : ℕ) (o : Option Key) → IsKept hw w → (family_of w e).original ≡ o
    → period_refusal (stage_of w) e period ≡ by_checks (not (is_some o)) (holds_of (λ i. i.attr.period == 0) (option_map (instance_at w) o)) (no_period period)
checks-are hw w e period o h is = grind (arith, nat_tests, open-is, original-is)

pub no-event : (hw : Hardware) (w : World) (e : EventNo) (period : ℕ) → IsKept hw w → (family_of w e).original ≡ None → period_refusal (stage_of w) e period ≡ Some reason.NoEvent
no-event hw w e period h none = checks-are hw w e period None h none

pub not-sampling : (hw : Hardware) (w : World) (e : EventNo) (period : ℕ) (k : Key) → IsKept hw w → (family_of w e).original ≡ Some k → (instance_at w k).attr.period ≡ 0
    → period_refusal (stage_of w) e period ≡ Some reason.NotSampling
not-sampling hw w e period k h is zero = grind (arith, nat_tests, checks-are, same_number)

samples : (hw : Hardware) (w : World) (e : EventNo) (period : ℕ) (k : Key) (b : Bool) → IsKept hw w → (family_of w e).original ≡ Some k → ((instance_at w k).attr.period ≡ 0 → ⊥)
    → no_period period ≡ b → period_refusal (stage_of w) e period ≡ by_checks false false b
samples hw w e period k b h is some known = grind (arith, nat_tests, checks-are, other_number)

pub zero-period : (hw : Hardware) (w : World) (e : EventNo) (period : ℕ) (k : Key) → IsKept hw w → (family_of w e).original ≡ Some k → ((instance_at w k).attr.period ≡ 0 → ⊥)
    → no_period period ≡ true → period_refusal (stage_of w) e period ≡ Some reason.ZeroPeriod
zero-period hw w e period k h is some known = samples hw w e period k true h is some known

pub no-reason : (hw : Hardware) (w : World) (e : EventNo) (period : ℕ) (k : Key) → IsKept hw w → (family_of w e).original ≡ Some k → ((instance_at w k).attr.period ≡ 0 → ⊥)
    → no_period period ≡ false → period_refusal (stage_of w) e period ≡ None
no-reason hw w e period k h is some known = samples hw w e period k false h is some known

pub some-period : (period : ℕ) → no_period period ≡ false → period ≢ 0
some-period period known zero = false≢true (sym known ∙ ap (λ b. b || not (bit_and period (2 ^ 63) == 0)) (same_number period 0 zero))

-- on the stage, and on the accounts
pub has-period : (hw : Hardware) (w new : World) (e : EventNo) (period : ℕ) (k : Key) → (family_of w e).original ≡ Some k → new ≡ set_period k period w → HasPeriod e period w new
has-period hw w new e period k is changed = grind (arith, nat_tests, get-here, get-there)

pub period-stage : (hw : Hardware) (w new : World) (e : EventNo) (period : ℕ) (k : Key) → IsKept hw w → (family_of w e).original ≡ Some k
    → stage_of new ≡ change_one (λ i. record i { attr = record i.attr { period = period } }) (instance_at w k).id (stage_of w) → stage_of new ≡ with_period e period (stage_of w)
period-stage hw w new e period k h is changed =
    changed ∙ period-one e period (stage_of w) (instance_at w k) (is-numbered hw w h) (original-is hw w e h ∙ ap (option_map (instance_at w)) is)

-- processors see no period
pub period-others : (hw : Hardware) (w new : World) (e : EventNo) (period : ℕ) (k : Key) (cpu : CpuNo) → IsKept hw w → is_live w k ≡ true → new ≡ set_period k period w
    → stage_of new ≡ with_period e period (stage_of w) → cpu.0 < 8 → IsUntouched hw w new cpu
period-others hw w new e period k cpu h live changed stage low =
    let posts : post_at new ≡ post_at w =
    ap post_at changed ∙ posts-same (λ i. record i { attr = record i.attr { period = period } }) (λ there x. refl) w k live in
    left-untouched hw w new cpu low (record {
      briefs = ap (λ s. briefs hw s cpu) stage ∙ period-briefs hw e period (stage_of w) cpu;
      seats = ap (λ (x : World). seats_at x cpu) changed;
      groups = λ q lead has. (
        ap (λ at. leads at q) (sym posts) ∙ lead,
        sym (λ t. has_context (stage_of (record w { quiet = (changed t).quiet })) cpu (posts t q).context) ∙ has,
        ap (λ at. (at q).id) posts,
        ap (λ (x : World). standing_at x q) changed,
      );
    })

-- a machine has eight processors at most
pub few-cpus : (pmus : Hardware) (w : World) (cpu : CpuNo) → IsKept w.hardware w → pmus ≡ w.hardware → length pmus.cpu_pmus ≤ 8 → cpu.0 < length w.quiet.running → cpu.0 < 8
few-cpus pmus w cpu h same few low = omega (arith, low, h.shape.running, few, ap (λ (x : Hardware). length x.cpu_pmus) same)
