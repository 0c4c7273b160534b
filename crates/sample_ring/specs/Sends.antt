-- inner
-- What a send does to the end that sends. After __perf_output_begin of kernel/events/ring_buffer.c, where a LOST record
-- and the record behind it fit together or are not written, too.
use Rattle.std.specs.Prelude.{ℕ, zero, suc, ◌+◌, nat_le, Bool, true, false, List, [], ◌∷◌, ◌++◌, sum_by}
use Rattle.ring_spec.specs.{Records.{Record, Lost, record_size, words_of}, Sending.{SentSample, trailer_if}, Account.{sample_of}}
use Rattle.ring_words.specs.Ends.{ProducerEnd, head_place, room_of}
use Rattle.sample_records.specs.{declared.{fields.Trailer.{Trailer}, record.Record.{Record as StoredRecord}}, Seen.{seen}}
use Rattle.sample_ring.specs.{OutEnds.{OutEnd}, declared.sent.Sent.{Sent as Answer}}
use Rattle.sample_ring.specs.declared.sent.Sent.TheVariants as answer

-- a record that is sent, and the id and the trailer of a LOST record before it
pub record Request : Type 0 where
  pub sent : Record
  pub id : ℕ
  pub trailer : List ℕ

abbrev pub request : StoredRecord → ℕ → Trailer → Request
request r id t = record { sent = seen r; id = id; trailer = trailer_if t.all t.sample t.fields }

-- the request of a sample of the definitions
abbrev pub request_of : SentSample → Request
request_of s = record { sent = sample_of s; id = s.id; trailer = s.trailer }

-- the record that states the losses, where there were some
abbrev pub told_where : ℕ → Record → List Record
told_where zero told = []
told_where (suc n) told = told ∷ []

-- what is written where it fits, and the bytes that it needs
abbrev pub records_for : OutEnd → Request → List Record
records_for o q = told_where o.pending (Lost q.id o.pending q.trailer) ++ q.sent ∷ []

abbrev pub need_for : OutEnd → Request → ℕ
need_for o q = sum_by record_size (records_for o q)

abbrev pub with_published : ProducerEnd → List Record → ProducerEnd
with_published p records = record p { published = p.published ++ words_of records }

abbrev pub with_records : OutEnd → List Record → OutEnd
with_records o records = record o { producer = with_published o.producer records; pending = 0 }

abbrev pub written_to : OutEnd → Request → OutEnd
written_to o q = with_records o (records_for o q)

abbrev pub lost_to : OutEnd → OutEnd
lost_to o = record o { lost = o.lost + 1; pending = o.pending + 1 }

-- whether the bytes that are free suffice
abbrev pub fits : OutEnd → Request → Bool
fits o q = nat_le (need_for o q) (room_of o.producer)

-- the end after a send, and what the send answers
abbrev pub sent_to : OutEnd → Request → OutEnd
sent_to o q = elim (fits o q) [ true ↦ written_to o q | false ↦ lost_to o ]

abbrev pub answer_to : OutEnd → Request → Answer
answer_to o q = elim (fits o q) [
  | true ↦ answer.Written
  | false ↦ answer.Lost (head_place o.producer) o.producer.last_tail (need_for o q)
]
