-- inner
-- What holds of the rows after any acts of a script. This project's own profile.
use Rattle.std.specs.Prelude.{◌≡◌, ◌<◌, true, AllPairs, Contains, List, count_by, length}
use Rattle.perf_base.specs.{declared.{acts.Act.{Act}, numbers.EventNo.{EventNo}}, Scripts.{IsCovered, IsScript, Scripted}}
use Rattle.stage_spec.specs.{Stage.{is_open}, Tables.{stage_in}}
use Rattle.stat_rows.specs.Rows.{row_of, rows_of, slots_below}

-- The slots of the rows rise.
abbrev pub RisingLaw : Type 0
RisingLaw = (s : Scripted) (acts : List Act) → AllPairs (λ p q. p.event.0 < q.event.0) (rows_of s acts)

-- There are as many rows as slots that hold an open event.
abbrev pub CountLaw : Type 0
CountLaw = (s : Scripted) (acts : List Act) → length (rows_of s acts) ≡ count_by (is_open (stage_in s acts)) (slots_below 256)

-- Each open event has its row: none stands beyond the 256 slots.
abbrev pub EachLaw : Type 0
EachLaw = (s : Scripted) (acts : List Act) (e : EventNo) → IsScript s → IsCovered s → is_open (stage_in s acts) e ≡ true → Contains (rows_of s acts) (row_of s acts e)
