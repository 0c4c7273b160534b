-- Totals, worked out by hand: sums of more than 64 bits, and words that are no records, which no run leaves.
use Rattle.std.{specs.Prelude.{◌≡◌, ℕ, List, [], ◌∷◌, length, sum_by}, proofs.Common.{refl}}
use Rattle.perf_base.specs.declared.{reply.{Answer.{Answer}, Reply.{Reply}}}
use Rattle.perf_base.specs.declared.acts.Actor.TheVariants as actor
use Rattle.perf_base.specs.declared.reply.Reply.TheVariants as reply
use Rattle.run_end.specs.declared.ended.RingEnd.{RingEnd}
use Rattle.report.specs.{Summary.{first_word}, Told.{cut, cut_records}}

-- the answer to a line of tool 0, and the answer of these words
abbrev told : Reply → Answer
told r = record { actor = actor.Tool (record { 0 = 0 }); number = 0; reply = r }

abbrev read : List ℕ → Answer
read words = told (reply.Read words)

abbrev sum_of : List Answer → ℕ
sum_of answers = sum_by (λ a. first_word a.reply) answers

no_answers : sum_of [] ≡ 0
no_answers = refl

no_words : sum_of (told reply.Ok ∷ read [] ∷ []) ≡ 0
no_words = refl

first_words : sum_of (read (500 ∷ 100 ∷ 90 ∷ []) ∷ told reply.Ok ∷ read (7 ∷ []) ∷ []) ≡ 507
first_words = refl

past_64_bits : sum_of (read (18446744073709551615 ∷ 1 ∷ []) ∷ read (18446744073709551615 ∷ []) ∷ read (2 ∷ []) ∷ []) ≡ 36893488147419103232
past_64_bits = refl

abbrev records_in : List ℕ → ℕ
records_in words = length (cut_records words)

no_record : records_in [] ≡ 0
unfolding cut
no_record = refl

sample_of_three_words : records_in (6755408030990345 ∷ 5 ∷ 1 ∷ []) ≡ 1
unfolding cut
sample_of_three_words = refl

-- a sample of two words, a LOST record of four, and a sample of one
three_records : records_in (4503603922337801 ∷ 5 ∷ 9007199254740994 ∷ 1 ∷ 3 ∷ 9 ∷ 2251804108652553 ∷ []) ≡ 3
unfolding cut
three_records = refl

-- a first word that says no size is a record by itself, and the last record has the words that there are
words_without_a_size : records_in (0 ∷ 6755408030990345 ∷ 5 ∷ []) ≡ 2
unfolding cut
words_without_a_size = refl

zeros : records_in (0 ∷ 0 ∷ 0 ∷ []) ≡ 3
unfolding cut
zeros = refl

-- what a ring came to that lost so many records, some of them pending
abbrev lossy : (ring lost pending : ℕ) → RingEnd
lossy ring lost pending = record { ring = record { 0 = ring }; numbers = record { head = 64; tail = 24; lost = lost; pending = pending } }

abbrev lost_by : List RingEnd → ℕ
lost_by ends = sum_by (λ e. e.numbers.lost) ends

no_rings : lost_by [] ≡ 0
no_rings = refl

losses : lost_by (lossy 0 5 2 ∷ lossy 3 0 0 ∷ lossy 4 1 1 ∷ []) ≡ 6
losses = refl

losses_past_64_bits : lost_by (lossy 0 18446744073709551615 0 ∷ lossy 1 18446744073709551615 1 ∷ []) ≡ 36893488147419103230
losses_past_64_bits = refl
