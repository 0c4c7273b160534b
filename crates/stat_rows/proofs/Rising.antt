-- The slots of rows rise, and the rows are as many as the open slots.
use Rattle.std.specs.Prelude.{◌≡◌, ℕ, zero, suc, ◌<◌, All, AllPairs, List, count_by, length, map}
use Rattle.std.proofs.{Common.{arith, get_or, subst, sym, ◌∙◌}, lemmas.List.{get_or-map, length-map, Elements.{All-push, All-weaker}}}
use Rattle.std.proofs.lemmas.List.{Kept.{AllPairs-filter}, Quantifiers.{all_pairs_push}, Sums.{length-filter}}
use Rattle.perf_base.specs.{declared.{acts.Act.{Act}, numbers.EventNo.{EventNo}}, Scripts.{Scripted}}
use Rattle.stage_spec.specs.{Stage.{is_open}, Tables.{stage_in}}
use Rattle.stat_table.specs.declared.row.StatRow.{StatRow}
use Rattle.stat_rows.{specs.{Laws.{CountLaw, RisingLaw}, Rows.{open_below, row_of, slots_below}}, proofs.Filling.{slot, slots-more}}

abbrev IsBelow : ℕ → EventNo → Type 0
IsBelow n e = e.0 < n

abbrev IsBefore : EventNo → EventNo → Type 0
IsBefore d e = d.0 < e.0

slots-small : (n : ℕ) → All (IsBelow n) (slots_below n)
slots-small zero = λ k d low. absurd (omega (arith, low))
slots-small (suc n) =
    subst (All (IsBelow (suc n))) (sym (slots-more n))
    (All-push (IsBelow (suc n)) (slots_below n) (slot n) (All-weaker (IsBelow n) (IsBelow (suc n)) (λ e low. omega (arith, low)) (slots_below n) (slots-small n)) (omega arith))

slots-rise : (n : ℕ) → AllPairs IsBefore (slots_below n)
slots-rise zero = λ i j d low high. absurd (omega (arith, high))
slots-rise (suc n) = subst (AllPairs IsBefore) (sym (slots-more n)) (all_pairs_push IsBefore (slots_below n) (slot n) (slots-rise n) (slots-small n))

-- rows are as their slots
rows-rise : (s : Scripted) (acts : List Act) (slots : List EventNo) → AllPairs IsBefore slots → AllPairs (λ (p q : StatRow). p.event.0 < q.event.0) (map (row_of s acts) slots)
rows-rise s acts slots rise i j d low high =
    let e : EventNo = d.event in
    let within : j < length slots = subst (λ n. j < n) (length-map slots (row_of s acts)) high in
    let at : (k : ℕ) → k < length slots → (get_or (map (row_of s acts) slots) k d).event ≡ get_or slots k e = grind (arith, get_or-map) in
    grind (arith, get_or, at, within, e)

pub rising : RisingLaw
rising s acts = rows-rise s acts (open_below 256 s acts) (AllPairs-filter IsBefore (is_open (stage_in s acts)) (slots_below 256) (slots-rise 256))

many : (n : ℕ) (s : Scripted) (acts : List Act) → length (map (row_of s acts) (open_below n s acts)) ≡ count_by (is_open (stage_in s acts)) (slots_below n)
many n s acts = length-map (open_below n s acts) (row_of s acts) ∙ length-filter (is_open (stage_in s acts)) (slots_below n)

pub counted : CountLaw
counted = many 256
