-- inner
-- What is written of a ring by its numbers and its words alone. This project's own profile.
use Rattle.std.specs.Prelude.{◌≡◌, ℕ, zero, suc, ◌+◌, ◌-◌, ◌*◌, ◌/◌, ⊤, nat_le, Bool, List, [], ◌∷◌, ◌++◌, All, codes, decimal, drop, flat_map, length, map, take}
use Rattle.perf_base.specs.{declared.{acts.Act.{Act}, numbers.RingNo.{RingNo}, reply.Answer.{Answer}}, Scripts.{Scripted}}
use Rattle.sample_ring.specs.declared.sent.RingNumbers.{RingNumbers}
use Rattle.ring_spec.specs.{Account.{Account, head_of}, Records.{IsRecord, words_of}, Whole.{size_field}}
use Rattle.report_spec.specs.Report.{answer_lines, fate_text, hexadecimal_digits}
use Rattle.script_spec.specs.Acts.{acts_text}
use Rattle.run_end.specs.Ended.{Ran, words_in}

-- words of sixteen hexadecimal digits, a space before each
abbrev pub words_text : List ℕ → List ℕ
words_text words = flat_map (λ word. 32 ∷ hexadecimal_digits 16 word) words

-- the line of a record, taken or left, with these words
abbrev pub words_line : (taken : Bool) → List ℕ → List ℕ
words_line taken words = fate_text taken ++ (words_text words ++ 10 ∷ [])

-- how many words stand behind the first word of a record, by its size field in bytes
abbrev pub words_behind : ℕ → ℕ
words_behind first = size_field first / 8 - 1

-- words cut into at most a given number of records: each is a first word and as many more as its size field says, or as
-- there are
unfoldable pub cut : (most : ℕ) → List ℕ → List (List ℕ)
cut zero words = []
cut (suc most) [] = []
cut (suc most) (first ∷ others) = (first ∷ take (words_behind first) others) ∷ cut most (drop (words_behind first) others)

-- the words of each record
abbrev pub cut_records : List ℕ → List (List ℕ)
cut_records words = cut (length words) words

-- the lines of records with these words, from a place on: one that ends at or before the tail was taken
unfoldable pub cut_lines : (tail place : ℕ) → List (List ℕ) → List ℕ
cut_lines tail place [] = []
cut_lines tail place (words ∷ records) = words_line (nat_le (place + 8 * length words) tail) words ++ cut_lines tail (place + 8 * length words) records

-- the line of a ring
abbrev pub numbers_line : RingNo → RingNumbers → List ℕ
numbers_line ring n = (codes "ring " ++ decimal ring.0) ++ ((codes " head=" ++ decimal n.head) ++ ((codes " tail=" ++ decimal n.tail)
    ++ ((codes " lost=" ++ decimal n.lost) ++ ((codes " pending=" ++ decimal n.pending) ++ 10 ∷ []))))

-- what a ring came to, and the records that were written on it
abbrev pub told_lines : RingNo → RingNumbers → List ℕ → List ℕ
told_lines ring numbers words = numbers_line ring numbers ++ cut_lines numbers.tail 0 (cut_records words)

-- These are the numbers of an account and the words of the records that it has written.
pub record IsTold (numbers : RingNumbers) (words : List ℕ) (a : Account) : Type 0 where
  pub head : numbers.head ≡ head_of a
  pub tail : numbers.tail ≡ a.tail
  pub lost : numbers.lost ≡ length a.lost
  pub pending : numbers.pending ≡ a.pending
  pub lawful : All IsRecord a.written
  pub written : words ≡ words_of a.written

-- what rings came to, one after the other
abbrev pub all_told : List (RingNo × RingNumbers × List ℕ) → List ℕ
all_told rings = flat_map (λ r. told_lines r.0 r.1 r.2) rings

-- These are the numbers and the words of these accounts, ring by ring.
abbrev pub AreTold : List (RingNo × RingNumbers × List ℕ) → List (RingNo × Account) → Type 0
AreTold [] [] = ⊤
AreTold [] (a ∷ accounts) = ⊥
AreTold (r ∷ rings) [] = ⊥
AreTold (r ∷ rings) (a ∷ accounts) = (r.0 ≡ a.0) × IsTold r.1 r.2 a.1 × AreTold rings accounts

-- the report of a run by the numbers and the words of its rings
abbrev pub told_report : Scripted → List Act → List Answer → List (RingNo × RingNumbers × List ℕ) → List ℕ
told_report s order answers rings = codes "order" ++ acts_text order ++ 10 ∷ [] ++ answer_lines s answers ++ all_told rings ++ codes "end" ++ 10 ∷ []

-- the rings of a run that has ended: which they are, their numbers, and the words that were written on them
abbrev pub rings_of : Ran → List (RingNo × RingNumbers × List ℕ)
rings_of r = map (λ e. (e.ring, e.numbers, words_in r.ins e.ring)) r.ends

-- the report of a run that has ended
abbrev pub report_by : Ran → List ℕ
report_by r = told_report r.script r.order r.answers (rings_of r)
