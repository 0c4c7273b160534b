-- inner
-- A header word is the one of its type, misc and size, after struct perf_event_header of perf_event_open(2).
use Rattle.std.specs.Prelude.{◌≡◌, ℕ, ◌^◌, ◌<◌}
use Rattle.ring_spec.specs.Whole.{size_field}
use Rattle.sample_records.specs.Headers.{type_field, misc_field, word_of}

-- the fields of a word are these three
pub record HasHeader (word type misc size : ℕ) : Type 0 where
  pub type_is : type_field word ≡ type
  pub misc_is : misc_field word ≡ misc
  pub size_is : size_field word ≡ size

-- The word of three fields has those fields.
abbrev pub HeaderLaw : Type 0
HeaderLaw =
    (type misc size : ℕ) → type < 2 ^ 32 → misc < 2 ^ 16 → size < 2 ^ 16 → HasHeader (word_of type misc size) type misc size

-- A word is that of its fields.
abbrev pub HeaderWordLaw : Type 0
HeaderWordLaw = (word type misc size : ℕ) → word < 2 ^ 64 → HasHeader word type misc size → word ≡ word_of type misc size
