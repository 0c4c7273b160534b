-- believed
-- Which bytes stand for which attribute.
use Rattle.std.specs.Prelude.{◌≡◌, ℕ, ◌<◌, ◌≤◌, ◌⊎◌, List, length, slice_index}
use Rattle.attr_bytes.specs.declared.raw.RawAttr.{RawAttr}
use Rattle.attr_bytes.specs.Layout.{type_in, config_in, sample_period_in, sample_type_in, read_format_in, flag_word_in, bp_type_in, config1_in, attr_size}
use Rattle.attr_bytes.specs.Flags.{flags_of_word, HasOnlyReadBits}

-- the types of this project's own profile: HARDWARE, SOFTWARE and RAW
abbrev pub IsClass : ℕ → Type 0
IsClass class = (class ≡ 0) ⊎ (class ≡ 1) ⊎ (class ≡ 4)

-- The bytes stand for the attribute: struct perf_event_attr of perf_event_open(2), field by field, in
-- this project's own profile, which has no field from byte 64 on. Bytes past the size say nothing.
pub record StandsFor (bytes : List ℕ) (raw : RawAttr) : Type 0 where
  pub least_size : 64 ≤ attr_size bytes
  pub most_size : attr_size bytes ≤ 4096
  pub whole : attr_size bytes ≤ length bytes
  pub unknown : (k : ℕ) → 64 ≤ k → k < attr_size bytes → slice_index bytes k ≡ 0
  pub class : raw.class ≡ type_in bytes
  pub is_class : IsClass raw.class
  pub config : raw.config ≡ config_in bytes
  pub period : raw.period ≡ sample_period_in bytes
  pub sample : raw.sample ≡ sample_type_in bytes
  pub format : raw.format ≡ read_format_in bytes
  pub read_bits : HasOnlyReadBits (flag_word_in bytes)
  pub flags : raw.flags.0 ≡ flags_of_word (flag_word_in bytes)
  pub bp_type : bp_type_in bytes ≡ 0
  pub config1 : config1_in bytes ≡ 0
