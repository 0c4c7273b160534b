-- The readers of a script are ready for their lines, and are again once they have done them.
use Rattle.std.specs.Prelude.{◌≡◌, ℕ, zero, suc, ◌<◌, ◌≤◌, All, AllPairs, List, [], ◌∷◌, length, map, take, Option, Some, None, slice_get}
use Rattle.std.proofs.{Common.{arith, sym, ap, ◌∙◌, inl, inr, get_or}, lemmas.List.{length-map}}
use Rattle.std.proofs.lemmas.Option.{none-some, same_Some, slice_get_cases, slice_get_within}
use Rattle.perf_base.specs.declared.{acts.Act.{Act}, lines.ReaderLine.{ReaderLine}, numbers.RingNo.{RingNo}}
use Rattle.perf_base.specs.Scripts.{HasRing, IsRingLine, IsScript, Scripted}
use Rattle.perf_base.proofs.Limits.{ring_small}
use Rattle.report_spec.specs.Answers.{reader_of}
use Rattle.sample_ring.specs.{InEnds.{InEnd}, OutEnds.{OutEnd}, RingLists.{InList, OutList, RingList, ring_index}}
use Rattle.sample_ring.specs.RingLists as lists
use Rattle.work_account.specs.Ends.{AreTogether}
use Rattle.machine.{specs.{Leading.{Kept, LeadTo}, Readers.{AreReaders, IsReaderOf}}, proofs.Behind.{ends-of-rings, numbers-of, place-of-nth}}
use Rattle.machine.proofs.Unlawful.{ring-there}
use Rattle.perf_book.specs.{Book.{Booked, IsBooked}, Plans.{IsPlanned}, Running.{AreReady, IsReadBy, IsReady, slot_of}}

-- a script has at most 16 readers, since their rings rise and are below 16
place-below : (lines : List ReaderLine) (k : ℕ) (d : ReaderLine) → AllPairs (λ q r. q.ring.0 < r.ring.0) lines → k < length lines → k ≤ (get_or lines k d).ring.0
place-below lines zero d rise low = omega arith
place-below lines (suc k) d rise low = omega (arith, place-below lines k d rise (omega (arith, low)), rise k (suc k) d (omega arith) low)

few-below : (lines : List ReaderLine) → AllPairs (λ q r. q.ring.0 < r.ring.0) lines → All (λ r. r.ring.0 < 16) lines → length lines ≤ 16
few-below [] rise small = omega arith
few-below (line ∷ lines) rise small =
    omega (arith, place-below (line ∷ lines) (length lines) line rise (omega arith), small (length lines) line (omega arith))

pub few-readers : (s : Scripted) → IsScript s → length s.readers ≤ 16
few-readers s h = few-below s.readers h.readers_rise (λ k d low. ring_small s.rings (get_or s.readers k d).ring h.rings (h.readers k d low).ring)

-- what a plan of a script says of its readers
pub planned : (s of : Scripted) (lines readers : List ReaderLine) (count : ℕ) → lines ≡ take count readers → IsPlanned of.readers readers count → of ≡ s → lines ≡ s.readers
planned s of lines readers count first plan same = first ∙ (plan.lines ∙ ap (λ (s : Scripted). s.readers) same)

-- the ring of an end stands at the end's place
table-at : (outs : List OutEnd) (place : ℕ) (o : OutEnd) → slice_get outs place ≡ Some o → slice_get (map (λ (o : OutEnd). o.producer.ring) outs) place ≡ Some o.producer.ring
table-at [] place o at = absurd (none-some _ at)
table-at (p ∷ outs) zero o at = ap (λ (q : OutEnd). Some q.producer.ring) (same_Some p o at)
table-at (p ∷ outs) (suc place) o at = table-at outs place o at

-- the reader of a ring that is there is ready
ready-at : (words : ℕ) (rings : RingList) (outs : OutList) (ins : InList) (ring : RingNo) → AreTogether rings outs → AreReaders words outs ins → length outs.outs ≡ length outs.numbers
    → lists.HasRing outs.numbers ring → IsReady rings ins ring
ready-at words rings outs ins ring together readers whole there = elim (slice_get_cases outs.outs (ring_index outs.numbers ring)).1 [
  | inl (o, _, at, _) ↦ grind (arith, o, at, table-at)
  | inr (past, _) ↦ absurd (omega (arith, past, there, whole))
]

as-many-ends : (s : Scripted) (acts : List Act) (m : Kept) → LeadTo s acts m → length m.outs.outs ≡ length m.outs.numbers
as-many-ends s acts m led = ends-of-rings s acts m led ∙ (sym (length-map s.rings (λ (r : RingNo × ℕ). r.0)) ∙ sym (ap length (numbers-of s acts m led)))

pub all-ready : (x : Booked) (words : ℕ) (rings : RingList) (ins : InList) → IsBooked x → AreTogether rings x.machine.outs → AreReaders words x.machine.outs ins
    → AreReady rings ins x.script.readers
all-ready x words rings ins h together readers k d low =
    let ring : RingNo = (get_or x.script.readers k d).ring in
    ready-at words rings x.machine.outs ins ring together readers (as-many-ends x.script x.order x.machine h.led)
    (ring-there x.script x.machine ring (x.order, h.led) (h.script.readers k d low).ring)

-- A reader that has done its line, or is as it was, is one of its ring.
read-back : (line : Option ReaderLine) (before after : InList) (ring : RingNo) (words : ℕ) (o p : OutEnd) (i : InEnd) → IsReadBy line before after ring
    → slot_of before ring ≡ Some (Some i) → o.producer.ring ≡ p.producer.ring → IsReaderOf words o i
    → (j : InEnd) × (slot_of after ring ≡ Some (Some j)) × IsReaderOf words p j
read-back None before after ring words o p i read at same h = (i, read ∙ at, record { ring = h.ring ∙ same; released = h.released; room = h.room })
read-back (Some line) before after ring words o p i read at same h =
    let is : read.0 ≡ i = same_Some read.0 i (same_Some (Some read.0) (Some i) (sym read.2 ∙ at)) in (
      read.1,
      read.3,
      record {
        ring = read.4.ring ∙ (ap (λ (x : InEnd). x.consumer.ring) is ∙ (h.ring ∙ same));
        released = read.4.released;
        room = omega (arith, read.4.room, ap (λ (x : InEnd). x.room) is, h.room);
      },
    )

-- two lists of ends are of the same rings, place by place
same-ring : (rings : RingList) (outs later : OutList) (place : ℕ) (o p : OutEnd) → AreTogether rings outs → AreTogether rings later → slice_get outs.outs place ≡ Some o
    → slice_get later.outs place ≡ Some p → o.producer.ring ≡ p.producer.ring
same-ring rings outs later place o p before after at at_later = grind (arith, same_Some, table-at)

-- the readers of a run's end
pub readers-back : (x y : Booked) (words : ℕ) (rings : RingList) (before after : InList) → IsBooked x → IsBooked y → y.script ≡ x.script
    → AreTogether rings x.machine.outs → AreTogether rings y.machine.outs → after.numbers ≡ before.numbers
    → ((ring : RingNo) → IsReadBy (reader_of x.script ring) before after ring) → AreReaders words x.machine.outs before → AreReaders words y.machine.outs after
readers-back x y words rings before after hx hy same together later numbers read readers = record {
  numbers = numbers ∙ (readers.numbers ∙ (sym together.numbers ∙ later.numbers));
  each = λ place p found.
      let outs = x.machine.outs in
      let whole : length outs.outs ≡ length x.script.rings = ends-of-rings x.script x.order x.machine hx.led in
      let whole_later : length y.machine.outs.outs ≡ length y.script.rings = ends-of-rings y.script y.order y.machine hy.led in
      let low : place < length x.script.rings = grind (arith, slice_get_within) in
      elim (slice_get_cases x.script.rings place).1 [
        | inl (r, _, ring_at, _) ↦ elim (slice_get_cases outs.outs place).1 [
          | inl (o, _, at, _) ↦
              let its = readers.each place o at in
              let names : before.numbers ≡ map (λ (r : RingNo × ℕ). r.0) x.script.rings = readers.numbers ∙ numbers-of x.script x.order x.machine hx.led in
              let here : ring_index before.numbers r.0 ≡ place =
              ap (λ (n : List RingNo). ring_index n r.0) names ∙ place-of-nth x.script.rings place r hx.script.rings_rise ring_at in
              let here_after : ring_index after.numbers r.0 ≡ place = ap (λ (n : List RingNo). ring_index n r.0) numbers ∙ here in
              let back = read-back (reader_of x.script r.0) before after r.0 words o p its.0 (read r.0) (ap (slice_get before.readers) here ∙ its.1)
              (same-ring rings outs y.machine.outs place o p together later at found) its.2 in
              (back.0, ap (slice_get after.readers) (sym here_after) ∙ back.1, back.2)
          | inr (past, _) ↦ absurd (omega (arith, past, low, whole))
        ]
        | inr (past, _) ↦ absurd (omega (arith, past, low))
      ];
}
