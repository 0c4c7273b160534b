-- inner
-- The fields that the words of a record say, and the fault of words that say none. After PERF_RECORD_SAMPLE and struct
-- sample_id of perf_event_open(2); that the word of the processor has a high half of 0, and is a fault where it has
-- not, is this project's own profile.
use Rattle.std.specs.Prelude.{◌≡◌, ℕ, ◌+◌, ◌^◌, ◌<◌, ◌==◌, Bool, not, ◌&&◌, nat_le, bit_and, List, [], ◌∷◌, length, slice_index, Option, Some, None, if◌then◌else◌}
use Rattle.ring_spec.specs.{declared.fields.Fields.{Fields}, Records.{Record, Sample, Lost, body_of, trailer_of}}
use Rattle.sample_records.specs.declared.fault.RecordFault.{RecordFault}
use Rattle.sample_records.specs.declared.fault.RecordFault.TheVariants as fault

-- whether a bit of PERF_SAMPLE_ is set
abbrev pub has_bit : (sample bit : ℕ) → Bool
has_bit sample bit = not (bit_and sample bit == 0)

-- how many of some bits are set
abbrev pub bits_in : ℕ → List ℕ → ℕ
bits_in sample [] = 0
bits_in sample (bit ∷ bits) = (if bit_and sample bit == 0 then 0 else 1) + bits_in sample bits

-- the bits whose fields stand before CPU in a sample, and all, in their order: IDENTIFIER, IP, TID, TIME, ID,
-- STREAM_ID, CPU, PERIOD
abbrev pub before_cpu_in_body : List ℕ
before_cpu_in_body = 65536 ∷ 1 ∷ 2 ∷ 4 ∷ 64 ∷ 512 ∷ []

abbrev pub in_body : List ℕ
in_body = 65536 ∷ 1 ∷ 2 ∷ 4 ∷ 64 ∷ 512 ∷ 128 ∷ 256 ∷ []

-- the same of a trailer: TID, TIME, ID, STREAM_ID, CPU, IDENTIFIER
abbrev pub before_cpu_in_trailer : List ℕ
before_cpu_in_trailer = 2 ∷ 4 ∷ 64 ∷ 512 ∷ []

abbrev pub in_trailer : List ℕ
in_trailer = 2 ∷ 4 ∷ 64 ∷ 512 ∷ 128 ∷ 65536 ∷ []

-- whether the word of CPU has a high half that is not 0
abbrev pub has_pad : (sample : ℕ) → (before_cpu words : List ℕ) → Bool
has_pad sample before_cpu words = has_bit sample 128 && nat_le (2 ^ 32) (slice_index words (bits_in sample before_cpu))

-- the first fault of the words of fields
abbrev pub words_fault : (sample : ℕ) → (before_cpu all words : List ℕ) → Option RecordFault
words_fault sample before_cpu all words =
    if not (length words == bits_in sample all) then Some fault.BadSize
    else if has_pad sample before_cpu words then Some fault.BadPad
    else None

-- the fault of a record whose fields, or trailer, by these bits are asked for
abbrev pub fields_fault : ℕ → Record → Option RecordFault
fields_fault sample (Sample mode body) = words_fault sample before_cpu_in_body in_body body
fields_fault sample (Lost id lost trailer) = Some fault.BadType

abbrev pub trailer_fault : ℕ → Record → Option RecordFault
trailer_fault sample (Sample mode body) = Some fault.BadType
trailer_fault sample (Lost id lost trailer) = words_fault sample before_cpu_in_trailer in_trailer trailer

-- what a field whose bit may not be set is read as
abbrev pub kept : (sample bit value : ℕ) → ℕ
kept sample bit value = if bit_and sample bit == 0 then 0 else value

-- the fields of a sample, 0 for each whose bit is not set
abbrev pub kept_in_body : ℕ → Fields → Fields
kept_in_body sample f = record {
  identifier = kept sample 65536 f.identifier;
  ip = kept sample 1 f.ip;
  pid = kept sample 2 f.pid;
  tid = kept sample 2 f.tid;
  time = kept sample 4 f.time;
  id = kept sample 64 f.id;
  stream_id = kept sample 512 f.stream_id;
  cpu = kept sample 128 f.cpu;
  period = kept sample 256 f.period;
}

-- the same of a trailer, which has no IP and no PERIOD
abbrev pub kept_in_trailer : ℕ → Fields → Fields
kept_in_trailer sample f = record (kept_in_body sample f) { ip = 0; period = 0 }

-- process, thread and processor are numbers of 32 bits
pub record HasHalves (f : Fields) : Type 0 where
  pub pid : f.pid < 2 ^ 32
  pub tid : f.tid < 2 ^ 32
  pub cpu : f.cpu < 2 ^ 32

-- The body of a sample says these fields, and the trailer of a LOST record these.
abbrev pub SaysFields : ℕ → Record → Fields → Type 0
SaysFields sample (Sample mode body) f = (body ≡ body_of sample f) × (f ≡ kept_in_body sample f)
SaysFields sample (Lost id lost trailer) f = ⊥

abbrev pub SaysTrailer : ℕ → Record → Fields → Type 0
SaysTrailer sample (Sample mode body) f = ⊥
SaysTrailer sample (Lost id lost trailer) f = (trailer ≡ trailer_of sample f) × (f ≡ kept_in_trailer sample f)
