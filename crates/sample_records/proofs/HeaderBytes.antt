-- The eight bytes of a header, put one number after the other.
use Rattle.std.proofs.Common.{◌≡◌, ◌<◌, ◌^◌, ℕ, ◌+◌, ◌*◌, ◌/◌, ◌%◌, List, [], ◌∷◌, ◌++◌, take, drop, arith}
use borrow.Rule.Slice.PartMut.{put_mid}
use Rattle.byteorder.specs.Endian.{little_number, little_bytes}
use Rattle.sample_records.specs.{Headers.{word_of}, HeaderLaw.{HeaderLaw, HeaderWordLaw}}

-- the number in the bytes of the three
bytes_sum : (type misc size : ℕ) → type < 2 ^ 32 → misc < 2 ^ 16 → size < 2 ^ 16
    → type % 256 + 256 * (type / 256 % 256 + 256 * (type / 65536 % 256 + 256 * (type / 16777216 % 256
    + 256 * (misc % 256 + 256 * (misc / 256 % 256 + 256 * (size % 256 + 256 * (size / 256 % 256 + 256 * 0)))))))
    ≡ type + misc * 4294967296 + size * 281474976710656
bytes_sum type misc size t m s = omega arith

pub header_bytes : (type misc size : ℕ) (first second third : List ℕ) → type < 2 ^ 32 → misc < 2 ^ 16 → size < 2 ^ 16
    → first ≡ little_bytes 4 type ++ 0 ∷ 0 ∷ 0 ∷ 0 ∷ [] → second ≡ little_bytes 2 misc ++ drop 2 (take 4 (drop 4 first))
    → third ≡ little_bytes 2 size ++ drop 2 (take 2 (drop 6 (put_mid 4 4 first second)))
    → little_number 8 (put_mid 6 2 (put_mid 4 4 first second) third) ≡ word_of type misc size
header_bytes type misc size first second third t m s a b c = rw c (rw b (rw a (bytes_sum type misc size t m s)))

-- the fields of the word of three fields, and the word of its fields
pub header_law : HeaderLaw
header_law type misc size t m s = record { type_is = omega arith; misc_is = omega arith; size_is = omega arith }

pub header_word_law : HeaderWordLaw
header_word_law word type misc size w h = omega (arith, h.type_is, h.misc_is, h.size_is)
