-- Where the word of CPU stands, and whether it has a high half.
use Rattle.std.proofs.Common.{◌≡◌, ℕ, suc, ◌+◌, ◌^◌, ◌<◌, ◌≤◌, ◌==◌, nat_le, bit_and, Bool, true, false, not, ◌&&◌, List, [], ◌∷◌, ◌++◌, length, slice_index, MatchResult, Result, Ok, Err, Some, None, if◌then◌else◌, refl, sym, ap, ◌∙◌, arith, zero-add}
use Rattle.ring_spec.specs.{Records.{field}, declared.fields.Fields.{Fields}}
use Rattle.sample_records.specs.declared.{fault.RecordFault.{RecordFault, TheVariants.{BadPad}}, asking.FieldWords.{FieldWords}}
use Rattle.sample_records.specs.Fields.{has_bit, bits_in, has_pad, words_fault, kept, before_cpu_in_body, before_cpu_in_trailer}
use Rattle.sample_records.{specs.FieldWords.{body_words, trailer_words, IsKept, fields_in}, proofs.Joining.{six_parts, eight_parts}}

-- a field is past by one word where its bit is set, and else by none
past : (sample bit word : ℕ) (xs : List ℕ) (n : ℕ)
    → slice_index (field bit sample word ++ xs) ((if bit_and sample bit == 0 then 0 else 1) + n) ≡ slice_index xs n
past sample bit word xs n = one (bit_and sample bit == 0)
  where
    one : (z : Bool) → slice_index ((if z then [] else word ∷ []) ++ xs) ((if z then 0 else 1) + n) ≡ slice_index xs n
    one true = ap (λ k. slice_index xs k) (zero-add n)
    one false = let e : 1 + n ≡ suc n = omega arith in ap (λ k. slice_index (word ∷ xs) k) e

-- the word of CPU, where it stands first
first_pad : (sample cpu : ℕ) (xs : List ℕ) → cpu ≡ kept sample 128 cpu
    → (has_bit sample 128 && nat_le (2 ^ 32) (slice_index (field 128 sample cpu ++ xs) 0)) ≡ nat_le (2 ^ 32) cpu
first_pad sample cpu xs h = one (bit_and sample 128 == 0) h
  where
    one : (z : Bool) → cpu ≡ (if z then 0 else cpu)
        → (not z && nat_le (2 ^ 32) (slice_index ((if z then [] else cpu ∷ []) ++ xs) 0)) ≡ nat_le (2 ^ 32) cpu
    one true zero = sym (ap (λ k. nat_le (2 ^ 32) k) zero)
    one false same = refl

-- the word of CPU, at a place that is known to have it
pad_at : (sample cpu n : ℕ) (words xs : List ℕ) → cpu ≡ kept sample 128 cpu
    → slice_index words n ≡ slice_index (field 128 sample cpu ++ xs) 0
    → (has_bit sample 128 && nat_le (2 ^ 32) (slice_index words n)) ≡ nat_le (2 ^ 32) cpu
pad_at sample cpu n words xs h e = ap (λ k. has_bit sample 128 && nat_le (2 ^ 32) k) e ∙ first_pad sample cpu xs h

-- the words of a sample's fields and of a trailer's, from the first on
pub body_from_first : (sample : ℕ) (w : FieldWords) → body_words sample w
    ≡ field 65536 sample w.identifier ++ (field 1 sample w.ip ++ (field 2 sample w.thread ++ (field 4 sample w.time ++ (field 64 sample w.id
    ++ (field 512 sample w.stream_id ++ (field 128 sample w.cpu ++ field 256 sample w.period))))))
body_from_first sample w =
    eight_parts (field 65536 sample w.identifier) (field 1 sample w.ip) (field 2 sample w.thread) (field 4 sample w.time)
    (field 64 sample w.id) (field 512 sample w.stream_id) (field 128 sample w.cpu) (field 256 sample w.period)

pub trailer_from_first : (sample : ℕ) (w : FieldWords) → trailer_words sample w
    ≡ field 2 sample w.thread ++ (field 4 sample w.time ++ (field 64 sample w.id
    ++ (field 512 sample w.stream_id ++ (field 128 sample w.cpu ++ field 65536 sample w.identifier))))
trailer_from_first sample w =
    six_parts (field 2 sample w.thread) (field 4 sample w.time) (field 64 sample w.id)
    (field 512 sample w.stream_id) (field 128 sample w.cpu) (field 65536 sample w.identifier)

pub body_pad : (sample : ℕ) (w : FieldWords) → IsKept sample w
    → has_pad sample before_cpu_in_body (body_words sample w) ≡ nat_le (2 ^ 32) w.cpu
body_pad sample w h =
    pad_at sample w.cpu (bits_in sample before_cpu_in_body) (body_words sample w) (field 256 sample w.period) h.cpu
    (ap (λ (x : List ℕ). slice_index x (bits_in sample before_cpu_in_body)) (body_from_first sample w)
    ∙ past sample 65536 w.identifier _ _ ∙ past sample 1 w.ip _ _ ∙ past sample 2 w.thread _ _ ∙ past sample 4 w.time _ _
    ∙ past sample 64 w.id _ _ ∙ past sample 512 w.stream_id _ _)

pub trailer_pad : (sample : ℕ) (w : FieldWords) → IsKept sample w
    → has_pad sample before_cpu_in_trailer (trailer_words sample w) ≡ nat_le (2 ^ 32) w.cpu
trailer_pad sample w h =
    pad_at sample w.cpu (bits_in sample before_cpu_in_trailer) (trailer_words sample w) (field 65536 sample w.identifier) h.cpu
    (ap (λ (x : List ℕ). slice_index x (bits_in sample before_cpu_in_trailer)) (trailer_from_first sample w)
    ∙ past sample 2 w.thread _ _ ∙ past sample 4 w.time _ _ ∙ past sample 64 w.id _ _ ∙ past sample 512 w.stream_id _ _)

-- words of the right number have the fault that their word of CPU has
pub fault_by_pad : (sample cpu : ℕ) (before all words : List ℕ) (w : FieldWords) (result : Result Fields RecordFault)
    → length words ≡ bits_in sample all → has_pad sample before words ≡ nat_le (2 ^ 32) cpu
    → MatchResult result (λ fields. (fields ≡ fields_in w) × (cpu < 2 ^ 32)) (λ fault. (fault ≡ BadPad) × (2 ^ 32 ≤ cpu))
    → MatchResult result (λ _. words_fault sample before all words ≡ None) (λ fault. words_fault sample before all words ≡ Some fault)
fault_by_pad sample cpu before all words w (Ok fields) number pad h = grind (arith, number, pad, h.1)
fault_by_pad sample cpu before all words w (Err fault) number pad h = grind (arith, number, pad, h.0, h.1)
