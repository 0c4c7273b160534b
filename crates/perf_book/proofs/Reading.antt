-- Readers go out one after the other, and come back as what they read.
use Rattle.std.specs.Prelude.{◌≡◌, ℕ, suc, ◌+◌, ◌*◌, ◌<◌, ◌≤◌, ◌==◌, true, false, All, AllPairs, List, [], ◌∷◌, length, Option, Some, None, IsSome}
use Rattle.std.proofs.{Common.{arith, refl, sym, ap, subst, ◌∙◌, inl, inr, get_or}, lemmas.Bool.{cases_eq, Decides.{nat_tests}}}
use Rattle.std.proofs.lemmas.List.Elements.{All-tail}
use Rattle.perf_base.specs.declared.{lines.ReaderLine.{ReaderLine}, numbers.RingNo.{RingNo}}
use Rattle.sample_ring.specs.{InEnds.{InEnd, IsStill, Reads}, RingLists.{HasRing, InList, IsOut, RingList, ring_index, with_slot}}
use Rattle.stage_laws.proofs.Leaders.{find-first, find-later}
use Rattle.machine.proofs.Places.{set-here, set-other}
use Rattle.report_spec.specs.Answers.{line_for}
use Rattle.perf_book.specs.Running.{AreReady, HasRead, IsReadBy, IsReady, slot_of}
use Rattle.work_account.proofs.Sends.{place-here, place-later}

-- two rings stand at two places, if one of them is there
places-apart : (numbers : List RingNo) (ring other : RingNo) → HasRing numbers ring → (other.0 ≡ ring.0 → ⊥) → ring_index numbers other ≡ ring_index numbers ring → ⊥
places-apart [] ring other there off same = omega (arith, there)
places-apart (n ∷ numbers) ring other there off same = elim (cases_eq n.0 ring.0) [
  | inl here ↦ grind (arith, nat_tests, place-later, here, place-here)
  | inr not_ring ↦ elim (cases_eq n.0 other.0) [
    | inl here ↦ omega (arith, place-here n other numbers here, place-later n ring numbers not_ring, same)
    | inr not_other ↦
        let ring_later = place-later n ring numbers not_ring in
        places-apart numbers ring other (omega (arith, there, ring_later)) off (omega (arith, ring_later, place-later n other numbers not_other, same))
  ]
]

-- a slot of another ring stays where one is set
slot-other : (ins : InList) (ring other : RingNo) (slot : Option InEnd) → HasRing ins.numbers ring → (other.0 ≡ ring.0 → ⊥)
    → slot_of (with_slot ins (ring_index ins.numbers ring) slot) other ≡ slot_of ins other
slot-other ins ring other slot there off = set-other ins.readers (ring_index ins.numbers ring) (ring_index ins.numbers other) slot (places-apart ins.numbers ring other there off)

-- lines behind a line are of higher rings
above : (line : ReaderLine) (rest : List ReaderLine) → AllPairs (λ q r. q.ring.0 < r.ring.0) (line ∷ rest) → All (λ r. line.ring.0 < r.ring.0) rest
above line rest rise k d low = rise 0 (suc k) d (omega arith) (omega (arith, low))

none-for : (lines : List ReaderLine) (ring : RingNo) → All (λ r. ring.0 < r.ring.0) lines → line_for lines ring ≡ None
none-for [] ring high = refl
none-for (line ∷ lines) ring high =
    let first : ring.0 < line.ring.0 = high 0 line (omega arith) in
    let not_it : (line.ring.0 == ring.0) ≡ false = grind (arith, nat_tests, first) in
    find-later (λ (l : ReaderLine). l.ring.0 == ring.0) line lines not_it ∙ none-for lines ring (All-tail (λ r. ring.0 < r.ring.0) line lines high)

-- what is left of lines, once the first was taken off, and of their readers, once the first is out
pub rest-rise : (line : ReaderLine) (rest : List ReaderLine) → AllPairs (λ q r. q.ring.0 < r.ring.0) (line ∷ rest) → AllPairs (λ q r. q.ring.0 < r.ring.0) rest
rest-rise line rest rise i j d below inside = rise (suc i) (suc j) d (omega (arith, below)) (omega (arith, inside))

pub first-ready : (rings : RingList) (ins : InList) (line : ReaderLine) (rest : List ReaderLine) → AreReady rings ins (line ∷ rest) → IsReady rings ins line.ring
first-ready rings ins line rest ready = ready 0 line (omega arith)

pub rest-ready : (rings : RingList) (ins : InList) (line : ReaderLine) (rest : List ReaderLine) → AllPairs (λ q r. q.ring.0 < r.ring.0) (line ∷ rest) → AreReady rings ins (line ∷ rest)
    → AreReady rings (with_slot ins (ring_index ins.numbers line.ring) None) rest
rest-ready rings ins line rest rise ready k d low =
    let higher : line.ring.0 < (get_or rest k d).ring.0 = above line rest rise k d low in
    let its : IsReady rings ins (get_or rest k d).ring = All-tail (λ l. IsReady rings ins l.ring) line rest ready k d low in
    let first : IsReady rings ins line.ring = first-ready rings ins line rest ready in
    grind (arith, nat_tests, slot-other, get_or, higher)

-- The readers of some lines have read while the one of a line before them was out: its slot is empty still, and with it
-- back all have read.
pub still-out : (ins out inner : InList) (lines rest : List ReaderLine) (line : ReaderLine) (reader : InEnd) → lines ≡ line ∷ rest → AllPairs (λ q r. q.ring.0 < r.ring.0) lines
    → slot_of ins line.ring ≡ Some (Some reader) → out ≡ with_slot ins (ring_index ins.numbers line.ring) None
    → ((ring : RingNo) → IsReadBy (line_for rest ring) out inner ring) → IsOut inner line.ring
still-out ins out inner lines rest line reader is rise at end read = grind (arith, nat_tests, none-for, above, set-here)

by-slots : (line : Option ReaderLine) (out before inner after : InList) (ring : RingNo) → slot_of out ring ≡ slot_of before ring → slot_of after ring ≡ slot_of inner ring
    → IsReadBy line out inner ring → IsReadBy line before after ring
by-slots None out before inner after ring first last read = last ∙ (read ∙ first)
by-slots (Some line) out before inner after ring first last read = (read.0, read.1, sym first ∙ read.2, last ∙ read.3, read.4)

pub read-more : (ins out inner after : InList) (lines rest : List ReaderLine) (line : ReaderLine) (reader back : InEnd) → lines ≡ line ∷ rest
    → AllPairs (λ q r. q.ring.0 < r.ring.0) lines → HasRing ins.numbers line.ring → slot_of ins line.ring ≡ Some (Some reader)
    → out ≡ with_slot ins (ring_index ins.numbers line.ring) None → inner.numbers ≡ out.numbers → ((ring : RingNo) → IsReadBy (line_for rest ring) out inner ring)
    → HasRead line reader back → after ≡ with_slot inner (ring_index inner.numbers line.ring) (Some back) → (ring : RingNo) → IsReadBy (line_for lines ring) ins after ring
read-more ins out inner after lines rest line reader back is rise there at end numbers read has put ring = elim (cases_eq line.ring.0 ring.0) [
  | inl here ↦
      let its : (line.ring.0 == ring.0) ≡ true = grind (arith, nat_tests, here) in
      let found : line_for lines ring ≡ Some line = ap (λ l. line_for l ring) is ∙ find-first (λ (l : ReaderLine). l.ring.0 == ring.0) line rest its in
      let same : line.ring ≡ ring = λ i. record { 0 = here i } in
      let empty : IsOut inner line.ring = still-out ins out inner lines rest line reader is rise at end read in
      let now : slot_of after line.ring ≡ Some (Some back) = grind (arith, nat_tests, set-here) in
      subst (λ l. IsReadBy l ins after ring) (sym found) (reader, back, ap (slot_of ins) (sym same) ∙ at, ap (slot_of after) (sym same) ∙ now, has)
  | inr off ↦ grind (arith, nat_tests, off, find-later, slot-other, by-slots)
]

-- a reader that has done no try, and one more
pub no-tries : (line : ReaderLine) (i : InEnd) → i.consumer.released ≡ length i.words → HasRead (record line { tries = 0 }) i i
no-tries line i released = record { ring = refl; room = refl; loads = omega arith; records = omega arith; released = released }

pub one-try : (line : ReaderLine) (tries taken : ℕ) (i j k : InEnd) → HasRead (record line { tries = tries }) i j → Reads j k → taken ≤ line.batch → k.records ≡ j.records + taken
    → (j.kept ≡ None → k.consumer.released ≡ length k.words) → (IsSome j.kept → IsStill j k) → HasRead (record line { tries = tries + 1 }) i k
one-try line tries taken i j k h reads few records released still = record {
  ring = reads.ring ∙ h.ring;
  room = reads.room ∙ h.room;
  loads = omega (arith, reads.loads, h.loads);
  records = omega (arith, records, few, h.records, more line.batch tries);
  released = by-kept j.kept released still;
}
  where
    more : (batch tries : ℕ) → (tries + 1) * batch ≡ tries * batch + batch
    more batch tries = grind arith

    by-kept : (kept : Option ℕ) → (kept ≡ None → k.consumer.released ≡ length k.words) → (IsSome kept → IsStill j k) → k.consumer.released ≡ length k.words
    by-kept None none some = none refl
    by-kept (Some first) none some = let s : IsStill j k = some refl in s.released ∙ (h.released ∙ sym (ap length s.words))
