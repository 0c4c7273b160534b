-- The two ends of a ring, whose reader follows the one that sends.
use Rattle.std.specs.Prelude.{◌≡◌, ℕ, zero, suc, ◌*◌, ◌≤◌, List, [], ◌∷◌, length, map, Some, slice_get, slice_set}
use Rattle.std.proofs.{Common.{arith, sym, ap, subst, ◌∙◌}, lemmas.Option.{none-some, same_Some, slice_get-map}}
use Rattle.perf_base.specs.{declared.{acts.Act.{Act}, numbers.RingNo.{RingNo}}, Scripts.{Scripted, IsCovered, IsScript}, Weight.{weight}}
use Rattle.ring_spec.specs.Rings.{account_in, bytes_of}
use Rattle.ring_laws.proofs.Orders.{few_words}
use Rattle.sample_ring.specs.{Taking.{IsUpTo, with_tail}, InEnds.{InEnd}, OutEnds.{HasAccount, OutEnd}}
use Rattle.sample_ring.specs.RingLists.{InList, OutList, RingList, HasRing, ring_index}
use Rattle.ring_words.specs.Ends.{Ring}
use Rattle.work_account.specs.Ends.{AreTogether}
use Rattle.machine.{specs.{Leading.{Kept, LeadTo}, Readers.{AreFollowing, Follows}}, proofs.Seen.{end-account}}

abbrev ring_of : OutEnd → Ring
ring_of o = o.producer.ring

-- the ring of an end, and its reader
pub ring-of-end : (rings : RingList) (outs : OutList) (ring : RingNo) (o : OutEnd) (t : Ring) → AreTogether rings outs → slice_get outs.outs (ring_index outs.numbers ring) ≡ Some o
    → slice_get rings.tables (ring_index rings.numbers ring) ≡ Some t → o.producer.ring ≡ t
ring-of-end rings outs ring o t h at there = grind (arith, same_Some, slice_get-map)

pub follower : (words : ℕ) (outs : OutList) (ins : InList) (ring : RingNo) (o : OutEnd) (i : InEnd) → AreFollowing words outs ins
    → slice_get outs.outs (ring_index outs.numbers ring) ≡ Some o → slice_get ins.readers (ring_index ins.numbers ring) ≡ Some (Some i) → Follows words o i
follower words outs ins ring o i h at reader =
    let there = h.each (ring_index outs.numbers ring) o at in
    let same : there.0 ≡ i = same_Some there.0 i (same_Some (Some there.0) (Some i) (sym there.1 ∙ (ap (λ n. slice_get ins.readers (ring_index n ring)) (sym h.numbers) ∙ reader))) in
    subst (Follows words o) same there.2

-- it has room for all words that were sent
pub room-there : (s : Scripted) (acts : List Act) (m : Kept) (ring : RingNo) (o : OutEnd) (i : InEnd) → IsScript s → IsCovered s → LeadTo s acts m → HasRing m.outs.numbers ring
    → slice_get m.outs.outs (ring_index m.outs.numbers ring) ≡ Some o → Follows (9 * weight s) o i → length o.producer.published ≤ i.room
room-there s acts m ring o i h covered led there at follows =
    let a : HasAccount o (account_in s acts (ring, bytes_of s ring)) = (end-account s acts m ring o led there at).has in
    omega (arith, follows.room, ap length a.written, few_words s acts (ring, bytes_of s ring) h covered)

-- an end that was looked at is still of its ring
set-same : {X Y : Type 0} (f : X → Y) (xs : List X) (i : ℕ) (x y : X) → slice_get xs i ≡ Some x → f y ≡ f x → map f (slice_set xs i y) ≡ map f xs
set-same f [] i x y at e = absurd (none-some _ at)
set-same f (z ∷ xs) zero x y at e = ap (λ q. q ∷ map f xs) (e ∙ ap f (sym (same_Some z x at)))
set-same f (z ∷ xs) (suc i) x y at e = ap (λ l. f z ∷ l) (set-same f xs i x y at e)

pub together-look : (rings : RingList) (outs : OutList) (ring : RingNo) (o p : OutEnd) (place loads : ℕ) → AreTogether rings outs → slice_get outs.outs (ring_index outs.numbers ring) ≡ Some o
    → p ≡ with_tail o place loads → AreTogether rings (record outs { outs = slice_set outs.outs (ring_index outs.numbers ring) p })
together-look rings outs ring o p place loads h at e = grind (arith, set-same)

-- and its reader follows it
pub follows-look : (words : ℕ) (o p : OutEnd) (i j : InEnd) (place loads : ℕ) → Follows words o i → p ≡ with_tail o place loads → IsUpTo j place
    → (j.consumer.ring ≡ i.consumer.ring) × (j.room ≡ i.room) → Follows words p j
follows-look words o p i j place loads h e up same = record {
  ring = same.0 ∙ (h.ring ∙ ap ring_of (sym e));
  up_to = subst (IsUpTo j) (ap (λ (q : OutEnd). q.producer.last_tail) (sym e)) up;
  room = omega (arith, h.room, same.1);
}
