-- The rows of one slot more.
use Rattle.std.specs.Prelude.{◌≡◌, ℕ, suc, ◌+◌, Bool, true, false, List, [], ◌∷◌, ◌++◌, cond, filter, map, Option, Some, None, if◌then◌else◌}
use Rattle.std.proofs.{Common.{ap, arith, refl, sym, ◌∙◌}, lemmas.List.{map-append, Elements.{filter-append}}}
use Rattle.perf_base.specs.{declared.{acts.Act.{Act}, numbers.EventNo.{EventNo}, reply.Sums.{Sums}}, Scripts.{Scripted}}
use Rattle.stage_spec.specs.{Numbers.{numbers_below}, Stage.{is_open}, Tables.{stage_in, family_in, family_if_open}}
use Rattle.stat_table.specs.declared.row.StatRow.{StatRow}
use Rattle.stat_rows.specs.Rows.{open_below, row_of, slots_below}

abbrev pub slot : ℕ → EventNo
slot n = record { 0 = n }

pub slots-more : (n : ℕ) → slots_below (suc n) ≡ slots_below n ++ slot n ∷ []
slots-more n = map-append slot (numbers_below n) (n ∷ [])

open-more : (n : ℕ) (s : Scripted) (acts : List Act) → open_below (n + 1) s acts ≡ open_below n s acts ++ filter (is_open (stage_in s acts)) (slot n ∷ [])
open-more n s acts = ap (filter (is_open (stage_in s acts))) (ap slots_below one ∙ slots-more n) ∙ filter-append (is_open (stage_in s acts)) (slots_below n) (slot n ∷ [])
  where
    one : n + 1 ≡ suc n
    one = omega arith

-- there is one more where the slot is open, and none where it is not
pub more-rows : (n : ℕ) (s : Scripted) (acts : List Act) (b : Bool) (rows : List StatRow) → is_open (stage_in s acts) (slot n) ≡ b
    → rows ≡ map (row_of s acts) (open_below n s acts)
    → rows ++ cond b (row_of s acts (slot n) ∷ []) [] ≡ map (row_of s acts) (open_below (n + 1) s acts)
more-rows n s acts b rows is so =
    ap (λ (all : List StatRow). all ++ cond b (row_of s acts (slot n) ∷ []) []) so
    ∙ sym (ap (map (row_of s acts)) (open-more n s acts)
    ∙ (map-append (row_of s acts) (open_below n s acts) (filter (is_open (stage_in s acts)) (slot n ∷ []))
    ∙ ap (λ (all : List StatRow). map (row_of s acts) (open_below n s acts) ++ all) (ap (λ (c : Bool). map (row_of s acts) (cond c (slot n ∷ []) [])) is ∙ picked b)))
  where
    picked : (b : Bool) → map (row_of s acts) (cond b (slot n ∷ []) []) ≡ cond b (row_of s acts (slot n) ∷ []) []
    picked true = refl
    picked false = refl
