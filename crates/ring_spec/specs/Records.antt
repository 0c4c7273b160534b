-- believed
-- The records of a ring, word by word: struct perf_event_header, PERF_RECORD_SAMPLE and PERF_RECORD_LOST of
-- perf_event_open(2). A word is eight bytes, the lowest first.
use Rattle.std.specs.Prelude.{◌≡◌, ℕ, ◌+◌, ◌*◌, ◌^◌, ◌≤◌, ◌==◌, bit_and, List, [], ◌∷◌, ◌++◌, length, map, take, sum, flat_map, All, if◌then◌else◌}
use Rattle.perf_base.specs.declared.lines.Mode.{Mode}
use Rattle.perf_base.specs.declared.lines.Mode.TheVariants as mode
use Rattle.ring_spec.specs.{declared.fields.Fields.{Fields}, Whole.{IsWhole}}

-- a sample with its fields, or how many records were lost before the next one, of this id, with a trailer
pub data Record : Type 0 where
  Sample : (mode : Mode) (body : List ℕ) → Record
  Lost : (id lost : ℕ) (trailer : List ℕ) → Record

-- PERF_RECORD_MISC_KERNEL and PERF_RECORD_MISC_USER
abbrev pub misc_of : Mode → ℕ
misc_of mode.Kernel = 1
misc_of mode.User = 2

-- the first word: type, misc and size in bytes
abbrev pub header : (type misc words : ℕ) → ℕ
header type misc words = type + misc * 2 ^ 32 + 8 * words * 2 ^ 48

-- the words of a record; PERF_RECORD_SAMPLE is 9 and PERF_RECORD_LOST is 2
abbrev pub record_words : Record → List ℕ
record_words (Sample mode body) = header 9 (misc_of mode) (length body + 1) ∷ body
record_words (Lost id lost trailer) = header 2 0 (length trailer + 3) ∷ id ∷ lost ∷ trailer

-- the size of a record in bytes, and the words of records, one after the other
abbrev pub record_size : Record → ℕ
record_size r = 8 * length (record_words r)

abbrev pub words_of : List Record → List ℕ
words_of records = flat_map record_words records

-- A sample has at most 8 fields, and a trailer at most 6 words.
abbrev pub IsRecord : Record → Type 0
IsRecord (Sample mode body) = length body ≤ 8
IsRecord (Lost id lost trailer) = length trailer ≤ 6

-- the word of a field, where its bit of PERF_SAMPLE_ is set
abbrev pub field : (bit sample word : ℕ) → List ℕ
field bit sample word = if bit_and sample bit == 0 then [] else word ∷ []

-- process and thread in one word
abbrev pub thread_word : Fields → ℕ
thread_word f = f.pid + f.tid * 2 ^ 32

-- the fields of a sample in their order: IDENTIFIER, IP, TID, TIME, ID, STREAM_ID, CPU, PERIOD
abbrev pub body_of : ℕ → Fields → List ℕ
body_of sample f = field 65536 sample f.identifier ++ field 1 sample f.ip ++ field 2 sample (thread_word f) ++ field 4 sample f.time
    ++ field 64 sample f.id ++ field 512 sample f.stream_id ++ field 128 sample f.cpu ++ field 256 sample f.period

-- the trailer of sample_id_all in its order: TID, TIME, ID, STREAM_ID, CPU, IDENTIFIER
abbrev pub trailer_of : ℕ → Fields → List ℕ
trailer_of sample f = field 2 sample (thread_word f) ++ field 4 sample f.time ++ field 64 sample f.id ++ field 512 sample f.stream_id
    ++ field 128 sample f.cpu ++ field 65536 sample f.identifier

-- A list of words stands for at most one list of records. The words of records are whole.
abbrev pub WordsLaw : Type 0
WordsLaw = (records others : List Record) → words_of records ≡ words_of others → records ≡ others

abbrev pub WholeLaw : Type 0
WholeLaw = (records : List Record) → All IsRecord records → IsWhole (words_of records)

-- Where some of the first words of records are whole, they end at a record: they are the words of the first few.
pub record EndsAtRecord (records : List Record) (words : List ℕ) : Type 0 where
  pub few : ℕ
  pub cut : words ≡ words_of (take few records)
  pub place : 8 * length words ≡ sum (take few (map record_size records))

abbrev pub PrefixLaw : Type 0
PrefixLaw = (records : List Record) (n : ℕ) → All IsRecord records → IsWhole (take n (words_of records)) → EndsAtRecord records (take n (words_of records))
