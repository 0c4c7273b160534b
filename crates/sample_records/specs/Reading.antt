-- inner
-- Which words a record is read from, and which fault they have, the first in this order: no word, the type, the misc,
-- the size, too few words. After struct perf_event_header, PERF_RECORD_SAMPLE and PERF_RECORD_LOST of
-- perf_event_open(2); that other types, miscs and sizes are faults is this project's own profile.
use Rattle.std.specs.Prelude.{◌≡◌, ℕ, ◌*◌, ◌%◌, ◌==◌, Bool, not, ◌&&◌, ◌||◌, nat_le, nat_lt, List, [], ◌∷◌, length, take, Option, Some, None, if◌then◌else◌}
use Rattle.std.specs.Option.{option_or}
use Rattle.ring_spec.specs.{Whole.{size_field}, Records.{Record, record_words, IsRecord}}
use Rattle.sample_records.specs.{declared.fault.RecordFault.{RecordFault}, Headers.{type_field, misc_field}}
use Rattle.sample_records.specs.declared.fault.RecordFault.TheVariants as fault

-- PERF_RECORD_LOST and PERF_RECORD_SAMPLE
abbrev pub is_lost : ℕ → Bool
is_lost type = type == 2

abbrev pub is_sample : ℕ → Bool
is_sample type = type == 9

-- A LOST record has misc 0, a sample PERF_RECORD_MISC_KERNEL or PERF_RECORD_MISC_USER.
abbrev pub is_misc : (type misc : ℕ) → Bool
is_misc type misc = if is_lost type then misc == 0 else (misc == 1 || misc == 2)

-- the least size of a record in bytes: three words or one
abbrev pub least_size : ℕ → ℕ
least_size type = if is_lost type then 24 else 8

-- A record has a whole number of words, at most 9.
abbrev pub is_size : (type size : ℕ) → Bool
is_size type size = nat_le (least_size type) size && nat_le size 72 && size % 8 == 0

-- the fault of a first word
abbrev pub header_fault : (type misc size : ℕ) → Option RecordFault
header_fault type misc size =
    if not (is_lost type || is_sample type) then Some fault.BadType
    else if not (is_misc type misc) then Some fault.BadMisc
    else if not (is_size type size) then Some fault.BadSize
    else None

-- the fault of a size, for a given number of words
abbrev pub length_fault : (size words : ℕ) → Option RecordFault
length_fault size words = if nat_lt (8 * words) size then Some fault.Short else None

-- the first fault of words
abbrev pub fault_of : List ℕ → Option RecordFault
fault_of [] = Some fault.Short
fault_of (first ∷ others) =
    option_or (header_fault (type_field first) (misc_field first) (size_field first))
    (length_fault (size_field first) (length (first ∷ others)))

-- The first words are those of this record.
pub record BeginsWith (words : List ℕ) (r : Record) (n : ℕ) : Type 0 where
  pub lawful : IsRecord r
  pub number : n ≡ length (record_words r)
  pub same : take n words ≡ record_words r
