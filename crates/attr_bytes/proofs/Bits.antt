-- The bits of a flag word.
use Rattle.std.proofs.Common.{◌≡◌, ◌<◌, ◌^◌, ℕ, ◌+◌, ◌*◌, ◌/◌, ◌%◌, min, max, refl, sym, ap, ◌∙◌, arith, bit_and, bit_or}
use Rattle.std.{proofs.lemmas.Nat.{shr-shr, or_lt, and_le_r, Bits.{bit_at_and, bit_at_or, bit_at-lt, same_from_bits}}, specs.Int.{bit_at}}
use Rattle.attr_bytes.specs.Flags.{HasOnlyReadBits, read_bits, flags_of_word}

-- a bit of two masked numbers put together
two_masks : (a m b n i : ℕ) → bit_at (bit_or (bit_and a m) (bit_and b n)) i ≡ max (min (bit_at a i) (bit_at m i)) (min (bit_at b i) (bit_at n i))
two_masks a m b n i = rw (bit_at_or (bit_and a m) (bit_and b n) i, bit_at_and a m i, bit_at_and b n i) refl

-- the bit is the first's where the first mask alone has it, the second's where the second alone has it,
-- and 0 where none has it
first_mask : (a m b n i : ℕ) → bit_at m i ≡ 1 → bit_at n i ≡ 0 → bit_at (bit_or (bit_and a m) (bit_and b n)) i ≡ bit_at a i
first_mask a m b n i one none = let h = bit_at-lt a i in two_masks a m b n i ∙ rw (one, none) (omega arith)

second_mask : (a m b n i : ℕ) → bit_at m i ≡ 0 → bit_at n i ≡ 1 → bit_at (bit_or (bit_and a m) (bit_and b n)) i ≡ bit_at b i
second_mask a m b n i none one = let h = bit_at-lt b i in two_masks a m b n i ∙ rw (one, none) (omega arith)

no_mask : (a m b n i : ℕ) → bit_at m i ≡ 0 → bit_at n i ≡ 0 → bit_at (bit_or (bit_and a m) (bit_and b n)) i ≡ 0
no_mask a m b n i none none' = two_masks a m b n i ∙ rw (none, none') (omega arith)

-- a mask that holds both masks changes nothing
both_masks : (a m b n k : ℕ) → bit_and m k ≡ m → bit_and n k ≡ n → bit_and (bit_or (bit_and a m) (bit_and b n)) k ≡ bit_or (bit_and a m) (bit_and b n)
both_masks a m b n k p q = same_from_bits _ _ (λ i.
    let e : min (bit_at m i) (bit_at k i) ≡ bit_at m i = sym (bit_at_and m k i) ∙ ap (λ (x : ℕ). bit_at x i) p in
    let f : min (bit_at n i) (bit_at k i) ≡ bit_at n i = sym (bit_at_and n k i) ∙ ap (λ (x : ℕ). bit_at x i) q in
    bit_at_and _ k i ∙ rw (two_masks a m b n i) (omega arith))

-- The flags are those of the flag word, bit by bit, and no others.
pub record AreFlagsOf (word flags : ℕ) : Type 0 where
  pub disabled : bit_at flags 0 ≡ bit_at word 0
  pub inherit : bit_at flags 1 ≡ bit_at word 1
  pub pinned : bit_at flags 2 ≡ bit_at word 2
  pub exclusive : bit_at flags 3 ≡ bit_at word 3
  pub exclude_user : bit_at flags 4 ≡ bit_at word 4
  pub exclude_kernel : bit_at flags 5 ≡ bit_at word 5
  pub sample_id_all : bit_at flags 6 ≡ bit_at word 18
  pub no_other : flags < 2 ^ 7

-- what `flags_of_word` computes
pub AreFlagsOf-word : (word : ℕ) → AreFlagsOf word (bit_or (bit_and word 63) (bit_and (word / 4096) 64))
AreFlagsOf-word word = record {
  disabled = first_mask word 63 (word / 4096) 64 0 refl refl;
  inherit = first_mask word 63 (word / 4096) 64 1 refl refl;
  pinned = first_mask word 63 (word / 4096) 64 2 refl refl;
  exclusive = first_mask word 63 (word / 4096) 64 3 refl refl;
  exclude_user = first_mask word 63 (word / 4096) 64 4 refl refl;
  exclude_kernel = first_mask word 63 (word / 4096) 64 5 refl refl;
  sample_id_all = second_mask word 63 (word / 4096) 64 6 refl refl ∙ ap (λ (x : ℕ). x % 2) (shr-shr word 12 6);
  no_other = or_lt 7 (bit_and word 63) (bit_and (word / 4096) 64) (omega (arith, and_le_r word 63)) (omega (arith, and_le_r (word / 4096) 64));
}

-- sample_id_all at its place in the flag word
moved_up : (flags : ℕ) → flags < 2 ^ 7 → bit_at (flags * 4096 % 2 ^ 64) 18 ≡ bit_at flags 6
moved_up flags small = omega arith

-- what `word_of_flags` computes
pub word-AreFlagsOf : (flags : ℕ) → flags < 2 ^ 7 → AreFlagsOf (bit_or (bit_and flags 63) (bit_and (flags * 4096 % 2 ^ 64) 262144)) flags
word-AreFlagsOf flags small = search (ℕ, first_mask, second_mask, moved_up)

pub word-HasOnlyReadBits : (flags high : ℕ) → HasOnlyReadBits (bit_or (bit_and flags 63) (bit_and high 262144))
word-HasOnlyReadBits flags high = both_masks flags 63 high 262144 read_bits refl refl

-- exclude_hv and exclude_guest are not set
pub word-bit_other : (flags high i : ℕ) → bit_at 63 i ≡ 0 → bit_at 262144 i ≡ 0 → bit_at (bit_or (bit_and flags 63) (bit_and high 262144)) i ≡ 0
word-bit_other flags high i p q = no_mask flags 63 high 262144 i p q

-- seven bits make the number
of_bits : (n : ℕ) → n < 2 ^ 7 → n ≡ bit_at n 0 * 2 ^ 0 + bit_at n 1 * 2 ^ 1 + bit_at n 2 * 2 ^ 2 + bit_at n 3 * 2 ^ 3 + bit_at n 4 * 2 ^ 4 + bit_at n 5 * 2 ^ 5 + bit_at n 6 * 2 ^ 6
of_bits n h = omega arith

-- so flags that are those of a flag word bit by bit are those that it has
pub flags_are : (word flags : ℕ) → AreFlagsOf word flags → flags ≡ flags_of_word word
flags_are word flags h = of_bits flags h.no_other ∙ rw (h.disabled, h.inherit, h.pinned, h.exclusive, h.exclude_user, h.exclude_kernel, h.sample_id_all) refl

-- a flag word has no flag beside the seven
pub flags_of_word-few : (word : ℕ) → flags_of_word word < 2 ^ 7
flags_of_word-few word = omega (arith, bit_at-lt word 0, bit_at-lt word 1, bit_at-lt word 2, bit_at-lt word 3, bit_at-lt word 4, bit_at-lt word 5, bit_at-lt word 18)
