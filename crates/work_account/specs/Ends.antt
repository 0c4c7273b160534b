-- inner
-- What records that are sent do to the ends of the rings and to the counts of those lost, and the accounts that the
-- ends have. After __perf_event_overflow and __perf_output_begin of kernel/events, which counts the records lost for
-- their event too; the tables are this project's own profile.
use Rattle.std.specs.Prelude.{◌≡◌, ◌≢◌, ℕ, ◌+◌, ◌*◌, ◌^◌, ◌<◌, ◌==◌, Bool, true, false, not, All, AllPairs, List, [], ◌∷◌, map, fold, slice_index_or, slice_set, if◌then◌else◌}
use Rattle.perf_base.specs.declared.numbers.{EventNo.{EventNo}, RingNo.{RingNo}}
use Rattle.ring_spec.specs.{Running.{RingAccount}, Sending.{SentSample}}
use Rattle.ring_words.specs.Ends.{head_place}
use Rattle.sample_ring.specs.{OutEnds.{OutEnd, HasAccount}, RingLists.{RingList, OutList}, declared.sent.Sent.{Sent as Answer}}
use Rattle.sample_ring.specs.Sends.{Request, request_of, sent_to, fits}
use Rattle.sample_ring.specs.declared.sent.Sent.TheVariants as answer

-- the ends that send, and of each slot how many of its records were lost
pub record Ends : Type 0 where
  pub outs : OutList
  pub lost : List ℕ

-- The ends once a record was sent to a ring: that ring's end has it written or lost, and no other one changes.
abbrev pub sent_among : (numbers : List RingNo) → List OutEnd → RingNo → Request → List OutEnd
sent_among [] outs ring q = outs
sent_among (n ∷ numbers) [] ring q = []
sent_among (n ∷ numbers) (o ∷ outs) ring q = if n.0 == ring.0 then sent_to o q ∷ outs else o ∷ sent_among numbers outs ring q

-- whether the record is lost there
abbrev pub loses_among : (numbers : List RingNo) → List OutEnd → RingNo → Request → Bool
loses_among [] outs ring q = false
loses_among (n ∷ numbers) [] ring q = false
loses_among (n ∷ numbers) (o ∷ outs) ring q = if n.0 == ring.0 then not (fits o q) else loses_among numbers outs ring q

-- what the end that sends answers
abbrev pub is_lost : Answer → Bool
is_lost answer.Written = false
is_lost (answer.Lost head tail need) = true

-- one more of a slot, where the record was lost
abbrev pub count_lost : Bool → EventNo → List ℕ → List ℕ
count_lost true e lost = slice_set lost e.0 (slice_index_or lost e.0 0 + 1)
count_lost false e lost = lost

-- one record of an event, and records, one after the other
abbrev pub send_one : Ends → EventNo → RingNo → Request → Ends
send_one x e ring q = record {
  outs = record x.outs { outs = sent_among x.outs.numbers x.outs.outs ring q };
  lost = count_lost (loses_among x.outs.numbers x.outs.outs ring q) e x.lost;
}

abbrev pub send_next : Ends → RingNo × SentSample → Ends
send_next x sent = send_one x sent.1.event sent.0 (request_of sent.1)

unfoldable pub send_all : Ends → List (RingNo × SentSample) → Ends
send_all x sents = fold send_next x sents

-- The ends are those of the rings.
pub record AreTogether (rings : RingList) (outs : OutList) : Type 0 where
  pub numbers : rings.numbers ≡ outs.numbers
  pub tables : map (λ o. o.producer.ring) outs.outs ≡ rings.tables

-- A number of further records, of events in some slots, leave heads and counts below 2^63: each moves one head by at
-- most its ring's size, and may be lost.
pub record HaveSpace (Slots : ℕ → Type 0) (n : ℕ) (x : Ends) : Type 0 where
  pub heads : All (λ o. head_place o.producer + n * o.producer.ring.bytes < 2 ^ 63) x.outs.outs
  pub losses : All (λ o. o.lost + n < 2 ^ 63) x.outs.outs
  pub lost : (slot : ℕ) → Slots slot → slice_index_or x.lost slot 0 + n < 2 ^ 63

-- An end between two calls has an account, which is of its ring; and so have some ends, ring by ring.
pub record IsAccountOf (n : RingNo) (o : OutEnd) (a : RingAccount) : Type 0 where
  pub ring : a.ring ≡ n
  pub bytes : a.bytes ≡ o.producer.ring.bytes
  pub has : HasAccount o a.account
  pub put : o.producer.put ≡ []

abbrev pub AreAccounts : (numbers : List RingNo) → List OutEnd → List RingAccount → Type 0
AreAccounts [] [] [] = Unit {0}
AreAccounts [] [] (a ∷ accounts) = ⊥
AreAccounts [] (o ∷ outs) accounts = ⊥
AreAccounts (n ∷ numbers) [] accounts = ⊥
AreAccounts (n ∷ numbers) (o ∷ outs) [] = ⊥
AreAccounts (n ∷ numbers) (o ∷ outs) (a ∷ accounts) = IsAccountOf n o a × AreAccounts numbers outs accounts

-- The ends have these accounts, and no ring stands there twice.
pub record HaveAccounts (outs : OutList) (accounts : List RingAccount) : Type 0 where
  pub apart : AllPairs (λ m n. m.0 ≢ n.0) outs.numbers
  pub each : AreAccounts outs.numbers outs.outs accounts
