-- believed
-- What becomes of the records that are sent to a ring. After __perf_output_begin of kernel/events/ring_buffer.c, which
-- counts the records that don't fit for their event too (lost_samples). That a tail is looked at once before a line is
-- this project's own profile.
use Rattle.std.specs.Prelude.{◌≡◌, ℕ, zero, suc, ◌+◌, ◌-◌, ◌==◌, nat_le, Bool, true, false, List, [], ◌∷◌, ◌++◌, fold, length, sum_by, count_by}
use Rattle.perf_base.specs.declared.numbers.EventNo.{EventNo}
use Rattle.ring_spec.specs.{Records.{Record, Sample, Lost, record_size}, Sending.{SentSample}}

-- what happens to a ring: a record is sent to it, or its tail is seen at a place
pub data RingEvent : Type 0 where
  Sends : (sent : SentSample) → RingEvent
  Looks : (place : ℕ) → RingEvent

-- The records written, how many were lost since the last LOST record, the event of each record that was lost, and where
-- the tail was seen last.
pub record Account : Type 0 where
  pub written : List Record
  pub pending : ℕ
  pub lost : List EventNo
  pub tail : ℕ

abbrev pub empty_account : Account
empty_account = record { written = []; pending = 0; lost = []; tail = 0 }

-- the head: the sizes of all records written, added up
abbrev pub head_of : Account → ℕ
head_of a = sum_by record_size a.written

-- the bytes that are free; one more byte always stays so
abbrev pub room_of : ℕ → Account → ℕ
room_of bytes a = bytes - 1 - (head_of a - a.tail)

-- the LOST record that states the losses before the next record; none where nothing was lost
abbrev pub told_before : (pending : ℕ) → SentSample → List Record
told_before zero sent = []
told_before (suc n) sent = Lost sent.id (suc n) sent.trailer ∷ []

-- what is written where it fits: the sample, behind a LOST record where some were lost
abbrev pub sample_of : SentSample → Record
sample_of sent = Sample sent.mode sent.body

abbrev pub records_for : Account → SentSample → List Record
records_for a sent = told_before a.pending sent ++ sample_of sent ∷ []

-- the bytes that this needs: both fit together or neither is written
abbrev pub need_of : Account → SentSample → ℕ
need_of a sent = sum_by record_size (records_for a sent)

abbrev pub written_to : Account → SentSample → Account
written_to a sent = record a { written = a.written ++ records_for a sent; pending = 0 }

abbrev pub lost_to : Account → SentSample → Account
lost_to a sent = record a { pending = a.pending + 1; lost = a.lost ++ sent.event ∷ [] }

abbrev pub send : ℕ → Account → SentSample → Account
send bytes a sent = elim (nat_le (need_of a sent) (room_of bytes a)) [ true ↦ written_to a sent | false ↦ lost_to a sent ]

-- one more event of a ring of a given size in bytes
abbrev pub ring_step : ℕ → Account → RingEvent → Account
ring_step bytes a (Sends sent) = send bytes a sent
ring_step bytes a (Looks place) = record a { tail = place }

-- the events whose records are lost among some more
abbrev pub lost_by : ℕ → Account → RingEvent → List EventNo
lost_by bytes a (Sends sent) = elim (nat_le (need_of a sent) (room_of bytes a)) [ true ↦ [] | false ↦ sent.event ∷ [] ]
lost_by bytes a (Looks place) = []

abbrev pub lost_among : ℕ → Account → List RingEvent → List EventNo
lost_among bytes a [] = []
lost_among bytes a (e ∷ events) = lost_by bytes a e ++ lost_among bytes (ring_step bytes a e) events

-- the account of a ring of a given size in bytes after some events
unfoldable pub account : ℕ → List RingEvent → Account
account bytes events = fold (ring_step bytes) empty_account events

-- whether an event is a record that is sent, how many samples were written, and how many losses LOST records state
abbrev pub is_sent : RingEvent → Bool
is_sent (Sends sent) = true
is_sent (Looks place) = false

abbrev pub is_sample : Record → Bool
is_sample (Sample mode body) = true
is_sample (Lost id lost trailer) = false

abbrev pub losses_in : Record → ℕ
losses_in (Sample mode body) = 0
losses_in (Lost id lost trailer) = lost

abbrev pub is_event : EventNo → EventNo → Bool
is_event e f = f.0 == e.0

-- how many of an event's records were lost
abbrev pub lost_of : EventNo → Account → ℕ
lost_of e a = count_by (is_event e) a.lost

-- The laws of conservation: the records sent are the samples written and those lost; LOST records state those lost, or
-- they are pending.
abbrev pub SentLaw : Type 0
SentLaw = (bytes : ℕ) (events : List RingEvent) → count_by is_sent events ≡ count_by is_sample (account bytes events).written + length (account bytes events).lost

abbrev pub ToldLaw : Type 0
ToldLaw = (bytes : ℕ) (events : List RingEvent) → length (account bytes events).lost ≡ sum_by losses_in (account bytes events).written + (account bytes events).pending
