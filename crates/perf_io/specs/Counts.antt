-- believed
-- Counts that stay at the last value of their type. This project's own profile of reading and writing.
use Rattle.std.specs.Prelude.{ℕ, ◌+◌, ◌-◌, ◌^◌, min}

-- The greatest number that a count of 64 bits reaches.
abbrev pub last_count : ℕ
last_count = 2 ^ 64 - 1

-- A count after n more, which stays at its last value.
abbrev pub count_after : ℕ → ℕ → ℕ
count_after count n = min (count + n) last_count
