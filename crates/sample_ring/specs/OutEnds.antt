-- inner
-- What contracts see of the end of a ring that sends records, and the ring account that it has.
use Rattle.std.specs.Prelude.{◌≡◌, ℕ, ◌≤◌, List, [], length, map, take, sum, All}
use Rattle.ring_spec.specs.{Records.{Record, IsRecord, record_size, words_of}, Account.{Account}}
use Rattle.ring_words.specs.Ends.{Ring, ProducerEnd, new_producer, IsSoundProducer}

-- the end that writes the ring's words, how many records were lost, and how many of them no LOST record has stated
-- (kernel/events/ring_buffer.c)
pub record OutEnd : Type 0 where
  pub producer : ProducerEnd
  pub lost : ℕ
  pub pending : ℕ

-- the end of a new ring (this project's own profile)
abbrev pub new_out : Ring → OutEnd
new_out ring = record { producer = new_producer ring; lost = 0; pending = 0 }

-- The end has this account: its words are those of the records written, and it has the account's numbers. The events of
-- the records that were lost are the caller's to know (this project's own profile).
pub record HasAccount (o : OutEnd) (a : Account) : Type 0 where
  pub written : words_of a.written ≡ o.producer.published
  pub lawful : All IsRecord a.written
  pub pending : a.pending ≡ o.pending
  pub lost : length a.lost ≡ o.lost
  pub tail : a.tail ≡ o.producer.last_tail

-- a place at which one of the records written ends, or the start (this project's own profile)
abbrev pub EndsRecord : Account → ℕ → Type 0
EndsRecord a place = (few : ℕ) × (place ≡ sum (take few (map record_size a.written)))

-- words that are those of some records (this project's own profile)
abbrev pub AreOfRecords : List ℕ → Type 0
AreOfRecords words = (records : List Record) × All IsRecord records × (words_of records ≡ words)

-- An end between two calls: nothing is put that is not published, and no more losses wait to be told than there were. A
-- ring has at most 65,536 bytes (this project's own profile).
pub record IsSoundOut (o : OutEnd) : Type 0 where
  pub producer : IsSoundProducer o.producer
  pub put : o.producer.put ≡ []
  pub records : AreOfRecords o.producer.published
  pub pending : o.pending ≤ o.lost
  pub bytes : o.producer.ring.bytes ≤ 65536
