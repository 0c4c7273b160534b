-- believed
-- The fields of struct perf_event_attr, each a little-endian number at its offset (perf_event_open(2)).
use Rattle.std.specs.Prelude.{◌≡◌, ℕ, ◌+◌, ◌≤◌, List, length, drop, ◌==◌, if◌then◌else◌}
use Rattle.byteorder.specs.Endian.{little_number}

-- the little-endian number in a given number of bytes from an offset on
unfoldable pub number_at : ℕ → ℕ → List ℕ → ℕ
number_at offset width bytes = little_number width (drop offset bytes)

-- type: HARDWARE 0, SOFTWARE 1, RAW 4
abbrev pub type_in : List ℕ → ℕ
type_in bytes = number_at 0 4 bytes

-- size: how many bytes the attribute's writer knows
abbrev pub size_in : List ℕ → ℕ
size_in bytes = number_at 4 4 bytes

-- config: which event of its type
abbrev pub config_in : List ℕ → ℕ
config_in bytes = number_at 8 8 bytes

-- sample_period: occurrences between two samples
abbrev pub sample_period_in : List ℕ → ℕ
sample_period_in bytes = number_at 16 8 bytes

-- sample_type: the bits of PERF_SAMPLE_
abbrev pub sample_type_in : List ℕ → ℕ
sample_type_in bytes = number_at 24 8 bytes

-- read_format: the bits of PERF_FORMAT_
abbrev pub read_format_in : List ℕ → ℕ
read_format_in bytes = number_at 32 8 bytes

-- the word of the flag bits, from disabled at bit 0 on
abbrev pub flag_word_in : List ℕ → ℕ
flag_word_in bytes = number_at 40 8 bytes

-- wakeup_events, which has no effect in this project's own profile
abbrev pub wakeup_events_in : List ℕ → ℕ
wakeup_events_in bytes = number_at 48 4 bytes

-- bp_type: a breakpoint's type
abbrev pub bp_type_in : List ℕ → ℕ
bp_type_in bytes = number_at 52 4 bytes

-- config1: more of the event's configuration
abbrev pub config1_in : List ℕ → ℕ
config1_in bytes = number_at 56 8 bytes

-- the size that counts: the size field, where 0 means 64, PERF_ATTR_SIZE_VER0
abbrev pub attr_size : List ℕ → ℕ
attr_size bytes = if size_in bytes == 0 then 64 else size_in bytes

-- the new bytes are the old ones, but for a number put into some of them from an offset on
pub record PutsNumber (offset width number : ℕ) (old new : List ℕ) : Type 0 where
  pub length : length new ≡ length old
  pub put : number_at offset width new ≡ number
  pub before : (from many : ℕ) → from + many ≤ offset → number_at from many new ≡ number_at from many old
  pub after : (from many : ℕ) → offset + width ≤ from → number_at from many new ≡ number_at from many old
