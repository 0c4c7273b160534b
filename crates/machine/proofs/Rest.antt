-- What a reader has that took the rest of its ring.
use Rattle.std.specs.Prelude.{◌≡◌, ℕ, zero, suc, ◌*◌, ◌≤◌, List, [], ◌∷◌, length, map, Option, Some, slice_get}
use Rattle.std.proofs.{Common.{arith, sym, ap, subst, ◌∙◌, inl, inr}, lemmas.{Bool.{cases_eq}, Option.{none-some, same_Some}}}
use Rattle.perf_base.specs.{declared.{acts.Act.{Act}, numbers.RingNo.{RingNo}}, Scripts.{Scripted, IsCovered, IsScript}, Weight.{weight}}
use Rattle.ring_spec.{specs.{Records.{words_of}, Rings.{account_in, bytes_of}}, proofs.Running.{in_account}}
use Rattle.ring_laws.proofs.Orders.{few_words}
use Rattle.sample_ring.specs.{Taking.{with_tail}, InEnds.{InEnd}, Lending.{with_out, with_reader}, OutEnds.{OutEnd}}
use Rattle.sample_ring.specs.RingLists.{HasRing, InList, OutList, ring_index, with_slot}
use Rattle.work_account.specs.Ends.{AreAccounts}
use Rattle.machine.proofs.{RingsThere.{recorded}, Pairs.{paired-set}, Places.{ring-is, set-here, set-other}}
use Rattle.machine.specs.{Leading.{Kept, LeadTo}, Readers.{AreBehind, AreTrailing, HasTaken, Trails}}
use Rattle.run_end.specs.Ended.{words_of_slot}
use Rattle.work_account.proofs.Sends.{place-here, place-later}

-- two rings at one place are one
same-place : (numbers : List RingNo) (ring other : RingNo) → HasRing numbers ring → ring_index numbers other ≡ ring_index numbers ring → other ≡ ring
same-place [] ring other there e = absurd (omega (arith, there))
same-place (n ∷ numbers) ring other there e = elim (cases_eq n.0 ring.0) [
  | inl its ↦ elim (cases_eq n.0 other.0) [
    | inl same ↦ ring-is other ring (sym same ∙ its)
    | inr off ↦ absurd (omega (arith, e, place-here n ring numbers its, place-later n other numbers off))
  ]
  | inr later ↦ elim (cases_eq n.0 other.0) [
    | inl same ↦ absurd (omega (arith, e, place-here n other numbers same, place-later n ring numbers later))
    | inr off ↦
        same-place numbers ring other (omega (arith, there, place-later n ring numbers later)) (omega (arith, e, place-later n ring numbers later, place-later n other numbers off))
  ]
]

-- the reader of a ring has taken all of it, and the others have what they had
pub ring-taken : (s : Scripted) (acts : List Act) (ins : InList) (ring : RingNo) (i j : InEnd) → slice_get ins.readers (ring_index ins.numbers ring) ≡ Some (Some i)
    → j.words ≡ words_of (account_in s acts (ring, bytes_of s ring)).written → HasTaken s acts (with_slot ins (ring_index ins.numbers ring) (Some j)) ring
ring-taken s acts ins ring i j at all =
    let here = set-here ins.readers (ring_index ins.numbers ring) (Some i) (Some j) at in
    record { there = (j, here); words = ap words_of_slot here ∙ all }

pub others-taken : (s : Scripted) (acts : List Act) (ins : InList) (ring other : RingNo) (slot : Option InEnd) → HasRing ins.numbers ring
    → HasTaken s acts (with_slot ins (ring_index ins.numbers ring) slot) ring → HasTaken s acts ins other → HasTaken s acts (with_slot ins (ring_index ins.numbers ring) slot) other
others-taken s acts ins ring other slot there taken h = grind (arith, same-place, set-other)

-- a reader that trails its end still does once it has taken the rest
pub trails-rest : (o p : OutEnd) (i j : InEnd) (loads : ℕ) → Trails o i → p ≡ with_tail o (8 * i.consumer.released) loads → j.consumer.released ≡ i.consumer.released
    → (j.consumer.ring ≡ i.consumer.ring) × (j.room ≡ i.room) → Trails p j
trails-rest o p i j loads h e released same = record {
  ring = same.0 ∙ (h.ring ∙ sym (ap (λ (q : OutEnd). q.producer.ring) e));
  released = ap (λ n. 8 * n) released ∙ sym (ap (λ (q : OutEnd). q.producer.last_tail) e);
  room = omega (arith, h.room, same.1, ap (λ (q : OutEnd). length q.producer.published) e);
}

pub trailing-rest : (outs : OutList) (ins : InList) (ring : RingNo) (o p : OutEnd) (i j : InEnd) → AreTrailing outs ins → slice_get outs.outs (ring_index outs.numbers ring) ≡ Some o
    → slice_get ins.readers (ring_index ins.numbers ring) ≡ Some (Some i) → Trails p j → AreTrailing (with_out outs (ring_index outs.numbers ring) p) (with_reader ins (ring_index ins.numbers ring) j)
trailing-rest outs ins ring o p i j h at reader both =
    let place : ℕ = ring_index outs.numbers ring in
    let found : slice_get ins.readers place ≡ Some (Some i) = ap (λ n. slice_get ins.readers (ring_index n ring)) (sym h.numbers) ∙ reader in
    subst (λ k. AreTrailing (with_out outs place p) (with_reader ins k j)) (ap (λ n. ring_index n ring) (sym h.numbers))
    (record { numbers = h.numbers; each = paired-set Trails outs.outs ins.readers place o p i j h.each at found both })

-- no ring has more words than a script's weight allows
few-published : (s : Scripted) (acts : List Act) (numbers : List RingNo) (outs : List OutEnd) (rings : List (RingNo × ℕ)) (place : ℕ) (o : OutEnd) → IsScript s → IsCovered s
    → AreAccounts numbers outs (map (in_account (account_in s acts)) rings) → slice_get outs place ≡ Some o → length o.producer.published ≤ 9 * weight s
few-published s acts [] [] rings place o script covered h at = absurd (none-some _ at)
few-published s acts [] (q ∷ outs) rings place o script covered h at = absurd h
few-published s acts (n ∷ numbers) [] rings place o script covered h at = absurd h
few-published s acts (n ∷ numbers) (q ∷ outs) [] place o script covered h at = absurd h
few-published s acts (n ∷ numbers) (q ∷ outs) (r ∷ rings) zero o script covered h at =
    omega (arith, ap (λ (x : OutEnd). length x.producer.published) (same_Some q o at), ap length h.0.has.written, few_words s acts r script covered)
few-published s acts (n ∷ numbers) (q ∷ outs) (r ∷ rings) (suc place) o script covered h at = few-published s acts numbers outs rings place o script covered h.1 at

-- readers that are behind the ends trail them
pub behind-trails : (s : Scripted) (acts : List Act) (m : Kept) (ins : InList) → IsScript s → IsCovered s → LeadTo s acts m → AreBehind (9 * weight s) m.outs ins → AreTrailing m.outs ins
behind-trails s acts m ins script covered led h =
    let accounts : AreAccounts m.outs.numbers m.outs.outs (map (in_account (account_in s acts)) s.rings) = grind (arith, recorded) in
    grind (arith, few-published, accounts)
