-- The rings of a script, one after the other, and where their ends stand.
use Rattle.std.{specs.Prelude.{◌≡◌, ℕ, ◌<◌, List, length, Some, slice_get, slice_index_or}, proofs.Common.{arith, sym, ap, subst, ◌∙◌, inl, inr}}
use Rattle.std.proofs.lemmas.{List.{length-map}, Option.{slice_get_cases, slice_get-get_or}}
use Rattle.perf_base.specs.{declared.{acts.Act.{Act}, numbers.RingNo.{RingNo}}, Scripts.{Scripted, IsScript}}
use Rattle.sample_ring.specs.{OutEnds.{OutEnd}, RingLists.{HasRing, ring_index}}
use Rattle.machine.{specs.{Leading.{Kept, LeadTo}, Readers.{loads_of, out_of}}, proofs.Behind.{ends-of-rings, numbers-of, place-of-nth}}
use Rattle.perf_book.proofs.Looked.{no_ring}

-- the k-th ring's end is the k-th
pub kth-place : (s : Scripted) (acts : List Act) (m : Kept) (rings : List (RingNo × ℕ)) (k : ℕ) → IsScript s → LeadTo s acts m → rings ≡ s.rings → k < length rings
    → ring_index m.outs.numbers (slice_index_or rings k no_ring).0 ≡ k
kth-place s acts m rings k h led e =
    subst (λ (l : List (RingNo × ℕ)). k < length l → ring_index m.outs.numbers (slice_index_or l k no_ring).0 ≡ k) (sym e)
    (λ low.
    ap (λ n. ring_index n (slice_index_or s.rings k no_ring).0) (numbers-of s acts m led)
    ∙ place-of-nth s.rings k (slice_index_or s.rings k no_ring) h.rings_rise (slice_get-get_or s.rings k no_ring low))

pub kth-there : (s : Scripted) (acts : List Act) (m : Kept) (rings : List (RingNo × ℕ)) (k : ℕ) → IsScript s → LeadTo s acts m → rings ≡ s.rings → k < length rings
    → HasRing m.outs.numbers (slice_index_or rings k no_ring).0
kth-there s acts m rings k h led e low =
    let number : RingNo × ℕ → RingNo = λ r. r.0 in
    omega (arith, kth-place s acts m rings k h led e low, ap length (numbers-of s acts m led), length-map s.rings number, ap length e, low)

-- there are as many counts of loads as rings
pub loads-of-rings : (s : Scripted) (acts : List Act) (m : Kept) → LeadTo s acts m → length (loads_of m.outs) ≡ length s.rings
loads-of-rings s acts m led = length-map m.outs.outs (λ o. o.producer.loads) ∙ ends-of-rings s acts m led

-- the end that sends of the k-th ring
pub kth-end : (s : Scripted) (acts : List Act) (m : Kept) (rings : List (RingNo × ℕ)) (k : ℕ) → IsScript s → LeadTo s acts m → rings ≡ s.rings → k < length rings
    → (o : OutEnd) × (out_of m.outs (slice_index_or rings k no_ring).0 ≡ Some o)
kth-end s acts m rings k h led e low = elim (slice_get_cases m.outs.outs k).1 [
  | inl (o, _, at, _) ↦ (o, ap (slice_get m.outs.outs) (kth-place s acts m rings k h led e low) ∙ at)
  | inr (past, _) ↦ absurd (omega (arith, past, ends-of-rings s acts m led, ap length e, low))
]
