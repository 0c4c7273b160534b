-- Readers that are behind the ends that send, one ring after the other.
use Rattle.std.specs.Prelude.{◌≡◌, ℕ, zero, suc, ◌+◌, ◌*◌, ◌<◌, ◌≤◌, AllPairs, List, [], ◌∷◌, length, map, Some, slice_get}
use Rattle.std.proofs.{Common.{arith, refl, sym, ap, subst, ◌∙◌, get_or, inl, inr}, lemmas.{Bool.{cases_eq}, List.{length-map}}}
use Rattle.std.proofs.lemmas.Option.{none-some, same_Some, slice_get_cases, slice_get_within, get_or_from_slice_get}
use Rattle.perf_base.specs.{declared.{acts.Act.{Act}, numbers.RingNo.{RingNo}}, Scripts.{Scripted}}
use Rattle.sample_ring.specs.{Taking.{with_tail}, InEnds.{InEnd}, Lending.{with_out}, OutEnds.{OutEnd}}
use Rattle.sample_ring.specs.RingLists.{InList, OutList, ring_index, with_slot}
use Rattle.ring_spec.specs.Running.{RingAccount}
use Rattle.work_account.specs.Ends.{AreAccounts}
use Rattle.machine.proofs.{RingsThere.{script-numbers}, Pairs.{paired-set}, Places.{set-here, set-other}, Spacious.{is-left}}
use Rattle.machine.specs.Leading.{Kept, LeadTo}
use Rattle.machine.specs.Readers.{AreBehind, AreFollowing, AreReaders, BehindTo, HasItsReader, HasMet, IsBehind, IsReaderOf, out_of, released_in, released_of_slot}
use Rattle.work_account.proofs.Sends.{place-here, place-later}

-- readers that follow the ends are behind them, and have released all that they took
pub following-behind : (words : ℕ) (outs : OutList) (ins : InList) → AreFollowing words outs ins → AreBehind words outs ins
following-behind words outs ins h = grind arith

pub following-readers : (words : ℕ) (outs : OutList) (ins : InList) → AreFollowing words outs ins → AreReaders words outs ins
following-readers words outs ins h = grind arith

-- the reader of a ring among them
pub its-reader : (words : ℕ) (outs : OutList) (ins : InList) (ring : RingNo) (o : OutEnd) → AreReaders words outs ins → out_of outs ring ≡ Some o → HasItsReader outs ins ring
its-reader words outs ins ring o h at =
    let there = h.each (ring_index outs.numbers ring) o at in
    record {
      there = (there.0, ap (λ n. slice_get ins.readers (ring_index n ring)) h.numbers ∙ there.1);
      same = λ p found. subst (λ (q : OutEnd). there.0.consumer.ring ≡ q.producer.ring) (same_Some o p (sym at ∙ found)) there.2.ring;
    }

-- The ends of one ring meet: its reader is behind then, and what was known of the readers stays.
met-reader : (words loads : ℕ) (o : OutEnd) (i j : InEnd) → HasMet o i j → IsReaderOf words o i → IsReaderOf words (with_tail o (8 * i.consumer.released) loads) j
met-reader words loads o i j met h = grind arith

met-behind : (words loads : ℕ) (o : OutEnd) (i j : InEnd) → HasMet o i j → IsReaderOf words o i → IsBehind words (with_tail o (8 * i.consumer.released) loads) j
met-behind words loads o i j met h = grind arith

behind-set : (words few : ℕ) (outs : OutList) (ins : InList) (o p : OutEnd) (i j : InEnd) → slice_get outs.outs few ≡ Some o → slice_get ins.readers few ≡ Some (Some i)
    → IsBehind words p j → BehindTo few words outs ins → BehindTo (few + 1) words (with_out outs few p) (with_slot ins few (Some j))
behind-set words few outs ins o p i j at reader here h place q below found = elim (cases_eq place few) [
  | inl e ↦ grind (arith, same_Some, set-here, e)
  | inr off ↦ grind (arith, off, set-other)
]

readers-set : (words place : ℕ) (outs : OutList) (ins : InList) (o p : OutEnd) (i j : InEnd) → slice_get outs.outs place ≡ Some o → slice_get ins.readers place ≡ Some (Some i)
    → IsReaderOf words p j → AreReaders words outs ins → AreReaders words (with_out outs place p) (with_slot ins place (Some j))
readers-set words place outs ins o p i j at reader here h = record {
  numbers = h.numbers;
  each = paired-set (IsReaderOf words) outs.outs ins.readers place o p i j h.each at reader here;
}

-- what a call that lets two ends meet says of the ends and of the readers
abbrev pub MeetsEnd : (ring : RingNo) → (outs new : OutList) → InList → Type 0
MeetsEnd ring outs new ins = (o : OutEnd) → out_of outs ring ≡ Some o → new ≡ with_out outs (ring_index outs.numbers ring) (with_tail o (released_in ins ring) (o.producer.loads + 1))

abbrev pub MeetsReader : (ring : RingNo) → OutList → (ins new : InList) → Type 0
MeetsReader ring outs ins new = (o : OutEnd) (i : InEnd) → out_of outs ring ≡ Some o → slice_get ins.readers (ring_index ins.numbers ring) ≡ Some (Some i)
    → (j : InEnd) × HasMet o i j × (new ≡ with_slot ins (ring_index ins.numbers ring) (Some j))

pub meet-behind : (words few : ℕ) (ring : RingNo) (outs new_outs : OutList) (ins new_ins : InList) → few < length outs.outs → ring_index outs.numbers ring ≡ few
    → MeetsEnd ring outs new_outs ins → MeetsReader ring outs ins new_ins → AreReaders words outs ins → BehindTo few words outs ins
    → AreReaders words new_outs new_ins × BehindTo (few + 1) words new_outs new_ins
meet-behind words few ring outs new_outs ins new_ins below place end reader h behind = elim (slice_get_cases outs.outs few).1 [
  | inl (o, _, at, _) ↦
      let found : out_of outs ring ≡ Some o = ap (slice_get outs.outs) place ∙ at in
      let there = h.each few o at in
      let i : InEnd = there.0 in
      let same : ring_index ins.numbers ring ≡ few = ap (λ n. ring_index n ring) h.numbers ∙ place in
      let slot : slice_get ins.readers (ring_index ins.numbers ring) ≡ Some (Some i) = ap (slice_get ins.readers) same ∙ there.1 in
      let met = reader o i found slot in
      let p : OutEnd = with_tail o (8 * i.consumer.released) (o.producer.loads + 1) in
      let is_out : with_out outs few p ≡ new_outs =
      sym (end o found ∙ (λ k. with_out outs (place k) (with_tail o (ap released_of_slot slot k) (o.producer.loads + 1)))) in
      let is_in : with_slot ins few (Some met.0) ≡ new_ins = sym (met.2 ∙ ap (λ k. with_slot ins k (Some met.0)) same) in
      subst (λ (outs : OutList). AreReaders words outs new_ins × BehindTo (few + 1) words outs new_ins) is_out
      (subst (λ (ins : InList). AreReaders words (with_out outs few p) ins × BehindTo (few + 1) words (with_out outs few p) ins) is_in (
        readers-set words few outs ins o p i met.0 at there.1 (met-reader words (o.producer.loads + 1) o i met.0 met.1 there.2) h,
        behind-set words few outs ins o p i met.0 at there.1 (met-behind words (o.producer.loads + 1) o i met.0 met.1 there.2) behind,
      ))
  | inr (past, _) ↦ absurd (omega (arith, past, below))
]

-- before the first ring, and after the last one
pub none-behind : (words : ℕ) (outs : OutList) (ins : InList) → BehindTo 0 words outs ins
none-behind words outs ins = λ place o below at. absurd (omega (arith, below))

pub all-behind : (words few : ℕ) (outs : OutList) (ins : InList) → length outs.outs ≤ few → AreReaders words outs ins → BehindTo few words outs ins → AreBehind words outs ins
all-behind words few outs ins all h behind = grind (arith, slice_get_within)

-- the ends are those of the script's rings, in their order
pub numbers-of : (s : Scripted) (acts : List Act) (m : Kept) → LeadTo s acts m → m.outs.numbers ≡ map (λ (r : RingNo × ℕ). r.0) s.rings
numbers-of s acts m led = script-numbers s acts m.world m.outs (is-left s acts m led)

as-many : (numbers : List RingNo) (outs : List OutEnd) (accounts : List RingAccount) → AreAccounts numbers outs accounts → length outs ≡ length numbers
as-many [] [] accounts h = refl
as-many [] (o ∷ outs) accounts h = absurd h
as-many (n ∷ numbers) [] accounts h = absurd h
as-many (n ∷ numbers) (o ∷ outs) [] h = absurd h
as-many (n ∷ numbers) (o ∷ outs) (a ∷ accounts) h = ap suc (as-many numbers outs accounts h.1)

pub ends-of-rings : (s : Scripted) (acts : List Act) (m : Kept) → LeadTo s acts m → length m.outs.outs ≡ length s.rings
ends-of-rings s acts m led =
    as-many m.outs.numbers m.outs.outs _ led.ends.each ∙ (ap length (numbers-of s acts m led) ∙ length-map s.rings (λ (r : RingNo × ℕ). r.0))

-- rings that rise stand each at its place
pub place-of-nth : (rings : List (RingNo × ℕ)) (few : ℕ) (ring : RingNo × ℕ) → AllPairs (λ (q r : RingNo × ℕ). q.0.0 < r.0.0) rings → slice_get rings few ≡ Some ring
    → ring_index (map (λ (r : RingNo × ℕ). r.0) rings) ring.0 ≡ few
place-of-nth [] few ring rise at = absurd (none-some _ at)
place-of-nth (q ∷ rings) zero ring rise at = place-here q.0 ring.0 (map (λ (r : RingNo × ℕ). r.0) rings) (ap (λ (r : RingNo × ℕ). r.0.0) (same_Some q ring at))
place-of-nth (q ∷ rings) (suc few) ring rise at =
    let low : few < length rings = slice_get_within rings few ring at in
    let is : (get_or rings few q).0.0 ≡ ring.0.0 = ap (λ (r : RingNo × ℕ). r.0.0) (get_or_from_slice_get rings few ring q at) in
    let above : q.0.0 < ring.0.0 = omega (arith, rise 0 (suc few) q (omega arith) (omega (arith, low)), is) in
    place-later q.0 ring.0 (map (λ (r : RingNo × ℕ). r.0) rings) (λ e. omega (arith, above, e))
    ∙ ap suc (place-of-nth rings few ring (λ i j d below inside. rise (suc i) (suc j) d (omega (arith, below)) (omega (arith, inside))) at)
