-- inner
-- The fields of a record's first word, after struct perf_event_header of perf_event_open(2): u32 type, u16 misc and
-- u16 size, little-endian. The size field is that of blocks of words.
use Rattle.std.specs.Prelude.{ℕ, ◌+◌, ◌*◌, ◌/◌, ◌%◌, ◌^◌}

-- type, its bits 0 to 31
abbrev pub type_field : ℕ → ℕ
type_field word = word % 2 ^ 32

-- misc, its bits 32 to 47
abbrev pub misc_field : ℕ → ℕ
misc_field word = word / 2 ^ 32 % 2 ^ 16

-- the word of these three
abbrev pub word_of : (type misc size : ℕ) → ℕ
word_of type misc size = type + misc * 2 ^ 32 + size * 2 ^ 48
