-- believed
-- The text of the table. This project's own profile, after what perf stat prints.
use Rattle.std.specs.Prelude.{ℕ, ◌-◌, ◌/◌, ◌%◌, Bool, true, false, List, ◌++◌, length, replicate, flat_map, codes, decimal, Option, Some, None}
use Rattle.stat_table.specs.{declared.row.StatRow.{StatRow}, Estimates.{estimate_of, share_of}}

-- An entry at the right end of a column of a given width. A longer one is written whole.
abbrev pub right : ℕ → List ℕ → List ℕ
right width entry = replicate (width - length entry) 32 ++ entry

-- An entry at the left end of a column of a given width. A longer one is written whole.
abbrev pub left : ℕ → List ℕ → List ℕ
left width entry = entry ++ replicate (width - length entry) 32

-- The entry of an estimate, by whether the event is in effective error.
abbrev pub estimate_text : Bool → Option ℕ → List ℕ
estimate_text true estimate = codes "error"
estimate_text false None = codes "-"
estimate_text false (Some n) = decimal n

-- The entry of a share: its hundreds, a point, its last two digits and the sign of percent.
abbrev pub share_text : Option ℕ → List ℕ
share_text None = codes "-"
share_text (Some h) = decimal (h / 100) ++ codes "." ++ decimal (h / 10 % 10) ++ decimal (h % 10) ++ codes "%"

-- The columns of numbers, a space before each: value, time enabled, time running, estimate and share.
abbrev pub numbers_text : StatRow → List ℕ
numbers_text row = codes " " ++ right 14 (decimal row.sums.count)
    ++ codes " " ++ right 14 (decimal row.sums.enabled)
    ++ codes " " ++ right 14 (decimal row.sums.running)
    ++ codes " " ++ right 27 (estimate_text row.error (estimate_of row.sums.count row.sums.enabled row.sums.running))
    ++ codes " " ++ right 7 (share_text (share_of row.sums.enabled row.sums.running))

-- A row: the slot, the name of the kind with a space before it, and the numbers.
abbrev pub row_text : StatRow → List ℕ
row_text row = right 3 (decimal row.event.0) ++ codes " " ++ left 31 row.name ++ numbers_text row ++ codes "\n"

-- The table: a line with the number of rows, the rows, and the line of the end.
abbrev pub table_text : List StatRow → List ℕ
table_text rows = codes "stat " ++ decimal (length rows) ++ codes "\n" ++ flat_map row_text rows ++ codes "end\n"
