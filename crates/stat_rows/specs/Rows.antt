-- believed
-- The rows of the table that perf stat would print, after some acts of a script. This project's own profile, after perf
-- stat, which has a row for each event that it has opened.
use Rattle.std.specs.{Prelude.{ℕ, List, [], filter, map, option_map}, Option.{unwrap_or}}
use Rattle.perf_base.specs.{declared.{acts.Act.{Act}, numbers.EventNo.{EventNo}}, Scripts.{Scripted}}
use Rattle.script_spec.specs.Printing.{kind_name}
use Rattle.stage_spec.specs.{Numbers.{numbers_below}, Stage.{Stage, is_open}, Tables.{stage_in, family_in, in_error, kind_in}}
use Rattle.stat_table.specs.declared.row.StatRow.{StatRow}

-- The name of what an event counts, as the script writes it. An event that is not open has none.
abbrev pub name_in : Scripted → Stage → EventNo → List ℕ
name_in s stage e = unwrap_or (option_map (kind_name s.kinds) (kind_in stage e)) []

-- the row of an event after some acts of a script
abbrev pub row_of : Scripted → List Act → EventNo → StatRow
row_of s acts e = record { event = e; name = name_in s (stage_in s acts) e; sums = family_in s acts e; error = in_error (stage_in s acts) e }

-- the slots below a number, rising
abbrev pub slots_below : ℕ → List EventNo
slots_below n = map (λ k. record { 0 = k }) (numbers_below n)

-- those of the slots below a number that hold an open event after some acts
abbrev pub open_below : ℕ → Scripted → List Act → List EventNo
open_below n s acts = filter (is_open (stage_in s acts)) (slots_below n)

-- the row of each of the 256 slots that holds an open event after some acts, by rising slot
abbrev pub rows_of : Scripted → List Act → List StatRow
rows_of s acts = map (row_of s acts) (open_below 256 s acts)
