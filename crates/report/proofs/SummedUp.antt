-- The totals by the numbers and the words of rings are those of their accounts.
use Rattle.std.specs.Prelude.{◌≡◌, ℕ, suc, ◌+◌, ◌/◌, ◌<◌, List, [], ◌∷◌, ◌++◌, All, length, map, sum_by, take}
use Rattle.std.proofs.{Common.{arith, refl, ap, ◌∙◌, length-append, get_or}, lemmas.List.{Concat.{flat_map-cons}, Elements.{All-tail}}}
use Rattle.std.proofs.{lemmas.List.{Folds.{fold-map}, Sums.{sum_by-cons, sum_by_more}}, Math.Seq.{drop-append_seam}}
use Rattle.perf_base.specs.{declared.numbers.RingNo.{RingNo}}
use Rattle.sample_ring.specs.declared.sent.RingNumbers.{RingNumbers}
use Rattle.ring_spec.specs.{Account.{Account}, Records.{Record, IsRecord, record_words, words_of}, Whole.{IsBlock, size_field}}
use Rattle.ring_spec.proofs.Cutting.{block-of}
use Rattle.run_end.specs.{Ended.{Ran}}
use Rattle.report.specs.{Told.{AreTold, IsTold, cut, cut_records, rings_of}, Summary.{ran_totals, totals_of}}
use Rattle.report.proofs.Told.{first_cut_at}

-- no words are no records
pub no_records : (words : List ℕ) → length words ≡ 0 → length (cut_records words) ≡ 0
unfolding cut
no_records [] e = refl
no_records (first ∷ others) e = absurd (omega (arith, e))

-- a block is one record
block_counts : (block rest : List ℕ) → IsBlock block → length (cut_records (block ++ rest)) ≡ suc (length (cut_records rest))
block_counts [] rest h = absurd h
block_counts (first ∷ others) rest h =
    let k : ℕ = suc (length others) in
    let size : k ≡ size_field first / 8 = omega (arith, h) in
    grind (arith, first_cut_at, k, size, length-append, drop-append_seam)

-- the words of records are cut into as many
count_of_words : (records : List Record) → All IsRecord records → length (cut_records (words_of records)) ≡ length records
count_of_words [] all = no_records [] refl
count_of_words (r ∷ records) all =
    ap (λ t. length (cut_records t)) (flat_map-cons record_words r records)
    ∙ (block_counts (record_words r) (words_of records) (block-of r (all 0 r (omega arith))) ∙ ap suc (count_of_words records (All-tail IsRecord r records all)))

abbrev told_written : RingNo × RingNumbers × List ℕ → ℕ
told_written r = length (cut_records r.2)

abbrev told_lost : RingNo × RingNumbers × List ℕ → ℕ
told_lost r = r.1.lost

abbrev written_on : RingNo × Account → ℕ
written_on r = length r.1.written

abbrev lost_on : RingNo × Account → ℕ
lost_on r = length r.1.lost

one_written : (numbers : RingNumbers) (words : List ℕ) (a : Account) → IsTold numbers words a → length (cut_records words) ≡ length a.written
one_written numbers words a h = ap (λ t. length (cut_records t)) h.written ∙ count_of_words a.written h.lawful

-- the records written on all rings
all_written : (rings : List (RingNo × RingNumbers × List ℕ)) (accounts : List (RingNo × Account)) → AreTold rings accounts → sum_by told_written rings ≡ sum_by written_on accounts
all_written [] [] h = refl
all_written [] (a ∷ accounts) h = absurd h
all_written (r ∷ rings) [] h = absurd h
all_written (r ∷ rings) (a ∷ accounts) h =
    omega (arith, sum_by-cons told_written r rings, sum_by-cons written_on a accounts, one_written r.1 r.2 a.1 h.1, all_written rings accounts h.2)

-- and those lost
all_lost : (rings : List (RingNo × RingNumbers × List ℕ)) (accounts : List (RingNo × Account)) → AreTold rings accounts → sum_by told_lost rings ≡ sum_by lost_on accounts
all_lost [] [] h = refl
all_lost [] (a ∷ accounts) h = absurd h
all_lost (r ∷ rings) [] h = absurd h
all_lost (r ∷ rings) (a ∷ accounts) h =
    omega (arith, sum_by-cons told_lost r rings, sum_by-cons lost_on a accounts, h.1.lost, all_lost rings accounts h.2)

-- a sum over what something gives
sum_by-map : {A B : Type 0} (f : B → ℕ) (g : A → B) (xs : List A) → sum_by f (map g xs) ≡ sum_by (λ x. f (g x)) xs
sum_by-map f g xs = fold-map (λ n x. n + f x) g 0 xs

-- the totals of a run
pub ran_accounts : (r : Ran) (accounts : List (RingNo × Account)) → AreTold (rings_of r) accounts
    → ran_totals r ≡ totals_of r.script r.answers accounts
ran_accounts r accounts h = grind (arith, sum_by-map, all_written, all_lost)

-- one entry more
pub sum_one_more : {X : Type 0} (f : X → ℕ) (xs : List X) (i : ℕ) (d : X) (sum n : ℕ) → i < length xs → sum ≡ sum_by f (take i xs) → n ≡ f (get_or xs i d) → sum + n ≡ sum_by f (take (i + 1) xs)
sum_one_more f xs i d sum n more s e = omega (arith, s, e, sum_by_more f xs i d more)
