-- believed
-- The flag bits of struct perf_event_attr (perf_event_open(2)), and where perf_base's AttrFlags has them.
use Rattle.std.specs.{Prelude.{◌≡◌, ℕ, ◌+◌, ◌*◌, ◌^◌, bit_and}, Int.{bit_at}}

-- the bits that this project's own profile reads: disabled 0, inherit 1, pinned 2, exclusive 3,
-- exclude_user 4, exclude_kernel 5, exclude_hv 6, sample_id_all 18 and exclude_guest 20
abbrev pub read_bits : ℕ
read_bits = 2 ^ 0 + 2 ^ 1 + 2 ^ 2 + 2 ^ 3 + 2 ^ 4 + 2 ^ 5 + 2 ^ 6 + 2 ^ 18 + 2 ^ 20

-- no other bit of the flag word is set
abbrev pub HasOnlyReadBits : ℕ → Type 0
HasOnlyReadBits word = bit_and word read_bits ≡ word

-- The flags of a flag word, each from its own place: disabled, inherit, pinned, exclusive, exclude_user and
-- exclude_kernel from 0 to 5, and sample_id_all from 18. exclude_hv and exclude_guest have no effect.
abbrev pub flags_of_word : ℕ → ℕ
flags_of_word word =
    bit_at word 0 * 2 ^ 0 + bit_at word 1 * 2 ^ 1 + bit_at word 2 * 2 ^ 2 + bit_at word 3 * 2 ^ 3
    + bit_at word 4 * 2 ^ 4 + bit_at word 5 * 2 ^ 5 + bit_at word 18 * 2 ^ 6
