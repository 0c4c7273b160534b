-- Records are conserved: those sent are written or lost, those lost are told or pending.
use Rattle.std.specs.Prelude.{◌≡◌, ℕ, ◌+◌, List, [], ◌∷◌, ◌++◌, fold, length, sum_by, count_by, cond}
use Rattle.std.proofs.{Common.{arith, refl, zero, suc}, lemmas.List.{length_push, Sums.{sum_by-append, sum_by-cons}}}
use Rattle.ring_spec.specs.Sending.{SentSample}
use Rattle.ring_spec.specs.Account.{RingEvent, Sends, Looks, Account, account, empty_account, ring_step, told_before, sample_of, is_sent, is_sample, losses_in, SentLaw, ToldLaw}

abbrev samples : Account → ℕ
samples a = count_by is_sample a.written

abbrev told : Account → ℕ
told a = sum_by losses_in a.written

-- what a record that is written brings
told_samples : (pending : ℕ) (sent : SentSample) → count_by is_sample (told_before pending sent ++ sample_of sent ∷ []) ≡ 1
told_samples zero sent = refl
told_samples (suc n) sent = refl

told_losses : (pending : ℕ) (sent : SentSample) → sum_by losses_in (told_before pending sent ++ sample_of sent ∷ []) ≡ pending
told_losses zero sent = refl
told_losses (suc n) sent = omega arith

-- one step keeps both
sent_step : (bytes : ℕ) (a : Account) (e : RingEvent) → samples (ring_step bytes a e) + length (ring_step bytes a e).lost ≡ (samples a + length a.lost) + cond (is_sent e) 1 0
sent_step bytes a (Looks place) = omega arith
sent_step bytes a (Sends sent) = grind (arith, sum_by-append, told_samples, length_push)

told_step : (bytes : ℕ) (a : Account) (e : RingEvent) → length a.lost ≡ told a + a.pending → length (ring_step bytes a e).lost ≡ told (ring_step bytes a e) + (ring_step bytes a e).pending
told_step bytes a (Looks place) h = h
told_step bytes a (Sends sent) h = grind (arith, sum_by-append, told_losses, length_push)

-- over events
sent_over : (bytes : ℕ) (a : Account) (events : List RingEvent) → samples (fold (ring_step bytes) a events) + length (fold (ring_step bytes) a events).lost ≡ (samples a + length a.lost) + count_by is_sent events
sent_over bytes a [] = omega arith
sent_over bytes a (e ∷ events) = omega (arith, sent_over bytes (ring_step bytes a e) events, sent_step bytes a e, sum_by-cons (λ x. cond (is_sent x) 1 0) e events)

told_over : (bytes : ℕ) (a : Account) (events : List RingEvent) → length a.lost ≡ told a + a.pending
    → length (fold (ring_step bytes) a events).lost ≡ told (fold (ring_step bytes) a events) + (fold (ring_step bytes) a events).pending
told_over bytes a [] h = h
told_over bytes a (e ∷ events) h = told_over bytes (ring_step bytes a e) events (told_step bytes a e h)

pub sent_law : SentLaw
unfolding account
sent_law bytes events = omega (arith, sent_over bytes empty_account events)

pub told_law : ToldLaw
unfolding account
told_law bytes events = told_over bytes empty_account events refl
