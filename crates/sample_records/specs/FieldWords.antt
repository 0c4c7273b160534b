-- inner
-- The words of fields, each still a whole word, in the order of a sample and of a trailer, after PERF_RECORD_SAMPLE
-- and sample_id_all of perf_event_open(2).
use Rattle.std.specs.Prelude.{◌≡◌, ℕ, ◌/◌, ◌%◌, ◌^◌, List, ◌++◌}
use Rattle.ring_spec.specs.{Records.{field}, declared.fields.Fields.{Fields}}
use Rattle.sample_records.specs.{Fields.{kept}, declared.asking.FieldWords.{FieldWords}}

-- the words of a sample's fields: IDENTIFIER, IP, TID, TIME, ID, STREAM_ID, CPU, PERIOD
abbrev pub body_words : ℕ → FieldWords → List ℕ
body_words sample w = field 65536 sample w.identifier ++ field 1 sample w.ip ++ field 2 sample w.thread ++ field 4 sample w.time
    ++ field 64 sample w.id ++ field 512 sample w.stream_id ++ field 128 sample w.cpu ++ field 256 sample w.period

-- the words of a trailer: TID, TIME, ID, STREAM_ID, CPU, IDENTIFIER
abbrev pub trailer_words : ℕ → FieldWords → List ℕ
trailer_words sample w = field 2 sample w.thread ++ field 4 sample w.time ++ field 64 sample w.id ++ field 512 sample w.stream_id
    ++ field 128 sample w.cpu ++ field 65536 sample w.identifier

-- Each word whose bit is not set is 0.
pub record IsKept (sample : ℕ) (w : FieldWords) : Type 0 where
  pub identifier : w.identifier ≡ kept sample 65536 w.identifier
  pub ip : w.ip ≡ kept sample 1 w.ip
  pub thread : w.thread ≡ kept sample 2 w.thread
  pub time : w.time ≡ kept sample 4 w.time
  pub id : w.id ≡ kept sample 64 w.id
  pub stream_id : w.stream_id ≡ kept sample 512 w.stream_id
  pub cpu : w.cpu ≡ kept sample 128 w.cpu
  pub period : w.period ≡ kept sample 256 w.period

-- the fields whose words they are
abbrev pub fields_in : FieldWords → Fields
fields_in w = record {
  identifier = w.identifier;
  ip = w.ip;
  pid = w.thread % 2 ^ 32;
  tid = w.thread / 2 ^ 32;
  time = w.time;
  id = w.id;
  stream_id = w.stream_id;
  cpu = w.cpu;
  period = w.period;
}
