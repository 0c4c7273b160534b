-- The words of a ring, cut into its records, and the lines that tell them.
use Rattle.std.specs.Prelude.{◌≡◌, ℕ, zero, suc, ◌+◌, ◌-◌, ◌*◌, ◌/◌, ◌<◌, ◌≤◌, nat_le, max, min, List, [], ◌∷◌, ◌++◌, All, codes, decimal, drop, flat_map, length, map, take}
use Rattle.std.proofs.{Common.{arith, refl, ap, ◌∙◌, append_assoc, length-append, get_or}, lemmas.List.{length-drop, take_min, drop_min}}
use Rattle.std.proofs.{lemmas.List.{Concat.{flat_map-cons}, Elements.{All-tail}}, Math.Seq.{drop-append_seam, take-append_seam}}
use Rattle.perf_base.specs.{declared.{acts.Act.{Act}, numbers.RingNo.{RingNo}, reply.Answer.{Answer}}, Scripts.{Scripted}}
use Rattle.sample_ring.specs.{RingLists.{InList}, declared.sent.RingNumbers.{RingNumbers}}
use Rattle.run_end.specs.{declared.ended.RingEnd.{RingEnd}, Ended.{words_in}}
use Rattle.ring_spec.specs.{Account.{Account, head_of}, Records.{Record, IsRecord, record_words, record_size, words_of}, Whole.{IsBlock, size_field}}
use Rattle.ring_spec.proofs.Cutting.{block-of}
use Rattle.report_spec.specs.Report.{hexadecimal_digits, record_lines, report, ring_lines}
use Rattle.report.specs.Told.{AreTold, IsTold, all_told, cut, cut_lines, cut_records, told_lines, told_report, words_behind, words_line, words_text}
use Rattle.script_print.proofs.Loops.{IsText}

pub words_each : IsText words_text (λ word. 32 ∷ hexadecimal_digits 16 word)
words_each = record { nil = refl; cons = λ word words. refl }

-- as many records as there are words are enough
cut_enough : (n m : ℕ) (words : List ℕ) → length words ≤ n → length words ≤ m → cut n words ≡ cut m words
unfolding cut
cut_enough zero zero words a b = refl
cut_enough zero (suc m) [] a b = refl
cut_enough zero (suc m) (first ∷ others) a b = absurd (omega (arith, a))
cut_enough (suc n) zero [] a b = refl
cut_enough (suc n) zero (first ∷ others) a b = absurd (omega (arith, b))
cut_enough (suc n) (suc m) [] a b = refl
cut_enough (suc n) (suc m) (first ∷ others) a b =
    let k = words_behind first in
    let fewer : length (drop k others) ≡ length others - k = length-drop k others in
    ap (λ t. (first ∷ take k others) ∷ t) (cut_enough n m (drop k others) (omega (arith, fewer, a)) (omega (arith, fewer, b)))

-- the first record and the words behind it
first_cut : (first : ℕ) (others : List ℕ) (k : ℕ) → k ≡ suc (min (words_behind first) (length others))
    → cut_records (first ∷ others) ≡ take k (first ∷ others) ∷ cut_records (drop k (first ∷ others))
unfolding cut
first_cut first others k e = grind (arith, length-drop, cut_enough, take_min, drop_min)

pub first_cut_at : (words : List ℕ) (size k : ℕ) → 0 < length words → size ≡ size_field (get_or words 0 0) / 8 → k ≡ max 1 (min size (length words))
    → cut_records words ≡ take k words ∷ cut_records (drop k words)
first_cut_at [] size k some s e = absurd (omega (arith, some))
first_cut_at (first ∷ others) size k some s e = first_cut first others k (omega (arith, s, e))

-- the line of the first record, and those of the rest
pub lines_step : (tail place k : ℕ) (words front behind : List ℕ) → cut_records words ≡ take k words ∷ cut_records (drop k words) → front ≡ take k words → behind ≡ drop k words
    → words_line (nat_le (place + 8 * length front) tail) front ++ cut_lines tail (place + 8 * length front) (cut_records behind) ≡ cut_lines tail place (cut_records words)
unfolding cut_lines
lines_step tail place k words front behind e r b = rw (e, r, b) refl

-- no words have no lines
pub no_lines : (tail place : ℕ) (words : List ℕ) → length words ≡ 0 → [] ≡ cut_lines tail place (cut_records words)
unfolding cut cut_lines
no_lines tail place [] e = refl
no_lines tail place (first ∷ others) e = absurd (omega (arith, e))

-- a block is cut off whole
cut_block : (n : ℕ) (block rest : List ℕ) → IsBlock block → cut (suc n) (block ++ rest) ≡ block ∷ cut n rest
unfolding cut
cut_block n [] rest h = absurd h
cut_block n (first ∷ others) rest h =
    let b : words_behind first ≡ length others = omega (arith, h) in
    rw (b, take-append_seam others rest, drop-append_seam others rest) refl

some_words : (block : List ℕ) → IsBlock block → 0 < length block
some_words [] h = absurd h
some_words (first ∷ others) h = omega arith

-- the words of records are cut into them
cut_words : (n : ℕ) (records : List Record) → All IsRecord records → length (words_of records) ≤ n → cut n (words_of records) ≡ map record_words records
unfolding cut
cut_words zero [] all l = refl
cut_words (suc n) [] all l = refl
cut_words zero (r ∷ records) all l = grind (arith, block-of, some_words, length-append, flat_map-cons)
cut_words (suc n) (r ∷ records) all l =
    let h = block-of r (all 0 r (omega arith)) in
    let fewer : length (words_of records) ≤ n = omega (arith, l, some_words (record_words r) h, length-append (record_words r) (words_of records), ap length (flat_map-cons record_words r records)) in
    grind (arith, flat_map-cons, cut_block, All-tail, fewer, cut_words n records (All-tail IsRecord r records all) fewer)

-- the lines of records by their words
lines_by_words : (tail place : ℕ) (records : List Record) → cut_lines tail place (map record_words records) ≡ record_lines tail place records
unfolding cut_lines record_lines
lines_by_words tail place [] = refl
lines_by_words tail place (r ∷ records) = rw (lines_by_words tail (place + record_size r) records) (simp append_assoc)

-- five texts with a number behind each, in a row
in_a_row : (a b c d e f g h i j end rest : List ℕ)
    → ((a ++ b) ++ ((c ++ d) ++ ((e ++ f) ++ ((g ++ h) ++ ((i ++ j) ++ end))))) ++ rest ≡ a ++ b ++ c ++ d ++ e ++ f ++ g ++ h ++ i ++ j ++ end ++ rest
in_a_row a b c d e f g h i j end rest = simp append_assoc

-- what is told of the numbers and the words of an account are its lines
pub told_account : (ring : RingNo) (numbers : RingNumbers) (words : List ℕ) (a : Account) → IsTold numbers words a → told_lines ring numbers words ≡ ring_lines (ring, a)
told_account ring numbers words a h =
    let same : cut_records words ≡ map record_words a.written = ap cut_records h.written ∙ cut_words (length (words_of a.written)) a.written h.lawful (omega arith) in
    let lines : cut_lines a.tail 0 (cut_records words) ≡ record_lines a.tail 0 a.written = ap (cut_lines a.tail 0) same ∙ lines_by_words a.tail 0 a.written in
    rw (h.head, h.tail, h.lost, h.pending, lines)
    (in_a_row (codes "ring ") (decimal ring.0) (codes " head=") (decimal (head_of a)) (codes " tail=") (decimal a.tail) (codes " lost=") (decimal (length a.lost))
    (codes " pending=") (decimal a.pending) (10 ∷ []) (record_lines a.tail 0 a.written))

-- the lines of the rings of a run, one after the other
abbrev pub end_told : InList → RingEnd → RingNo × RingNumbers × List ℕ
end_told ins e = (e.ring, e.numbers, words_in ins e.ring)

pub ends_each : (ins : InList) → IsText (λ (ends : List RingEnd). all_told (map (end_told ins) ends)) (λ e. told_lines e.ring e.numbers (words_in ins e.ring))
ends_each ins = record { nil = refl; cons = λ e ends. refl }

pub told_accounts : (rings : List (RingNo × RingNumbers × List ℕ)) (accounts : List (RingNo × Account)) → AreTold rings accounts → all_told rings ≡ flat_map ring_lines accounts
told_accounts [] [] h = refl
told_accounts [] (a ∷ accounts) h = absurd h
told_accounts (r ∷ rings) [] h = absurd h
told_accounts (r ∷ rings) (a ∷ accounts) h = grind (arith, told_account, told_accounts rings accounts h.2)

-- the report with its rings
pub told_whole : (s : Scripted) (order : List Act) (answers : List Answer) (rings : List (RingNo × RingNumbers × List ℕ)) (accounts : List (RingNo × Account))
    → AreTold rings accounts → told_report s order answers rings ≡ report s order answers accounts
unfolding report
told_whole s order answers rings accounts h = grind (arith, told_accounts)
