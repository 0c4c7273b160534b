use Rattle.std.{specs.Prelude.{◌≡◌, ℕ, ◌*◌, ◌<◌, List, length, slice_index_or, take}, proofs.Common.{arith, refl, sym, ap, subst, ◌∙◌}}
use Rattle.perf_base.specs.{declared.{acts.Act.{Act}, numbers.RingNo.{RingNo}}, Scripts.{Scripted, IsScript}, Weight.{weight}}
use Rattle.ring_spec.specs.{Records.{words_of}, Rings.{account_in, bytes_of}}
use Rattle.sample_ring.specs.RingLists.{ring_index}
use Rattle.stage_spec.specs.Order.{last_seen}
use Rattle.machine.{specs.{Leading.{Kept}, Readers.{records_taken, released_in}}, proofs.Seen.{end-seen}}
use Rattle.run_end.specs.Ended.{words_in}
use Rattle.machine.proofs.Behind.{all-behind, ends-of-rings, its-reader, meet-behind, none-behind, numbers-of}
use Rattle.perf_book.proofs.{Declared.{all-declared}, Looked.{IsNext, looked-next, looked-none, no_ring}}
use Rattle.perf_book.proofs.Parts.{IsPart, SameReaders, all-parts, met-same, met-still, no-look, parts-more, same-records, same-released, same-self, same-then, same-words, written-looked}
use Rattle.perf_book.proofs.Visits.{kth-end, kth-place, kth-there}
use Rattle.perf_book.proofs.ending.meet_all.Goals as goal

pub loop-ring-init : goal.loop-ring-init
loop-ring-init c = record {
  led = c.requires.led;
  looked = looked-none c.args.script.now.rings c.args.order.now.items;
  readers = c.requires.readers;
  behind = none-behind (9 * weight c.args.script.now) c.args.machine.now.outs c.args.ins.now;
  parts = λ j below inside. absurd (omega (arith, below));
  same = same-self c.args.ins.now;
  still = λ h. (refl, h);
  together = c.requires.together;
  filled = omega arith;
  capacity = refl;
}

pub meet_at-requires-clause-ring : goal.meet_at-requires-clause-ring
meet_at-requires-clause-ring c =
    kth-there c.args.script.now c.loop-ring.order.items c.loop-ring.machine c.rings-ring-items.result.now c.loop-ring.ring-index c.rings-ring-items.ensures.sound
    c.loop-ring.invariant.led c.rings-ring-items.ensures.rings c.loop-ring-test.true

pub meet_at-requires-clause-reader : goal.meet_at-requires-clause-reader
meet_at-requires-clause-reader c =
    let ring : RingNo = (slice_index_or c.rings-ring-items.result.now c.loop-ring.ring-index no_ring).0 in
    let end = kth-end c.args.script.now c.loop-ring.order.items c.loop-ring.machine c.rings-ring-items.result.now c.loop-ring.ring-index c.rings-ring-items.ensures.sound
    c.loop-ring.invariant.led c.rings-ring-items.ensures.rings c.loop-ring-test.true in
    its-reader (9 * weight c.args.script.now) c.loop-ring.machine.outs c.loop-ring.ins ring end.0 c.loop-ring.invariant.readers end.1

pub loop-ring-preserved : goal.loop-ring-preserved
loop-ring-preserved c =
    let s : Scripted = c.args.script.now in
    let words : ℕ = 9 * weight s in
    let k : ℕ = c.loop-ring.ring-index in
    let items : List (RingNo × ℕ) = c.rings-ring-items.result.now in
    let ring : RingNo = (slice_index_or items k no_ring).0 in
    let before : List Act = c.args.order.now.items in
    let now : List Act = c.loop-ring.order.items in
    let later : List Act = c.meet_at.new.order.items in
    let m : Kept = c.loop-ring.machine in
    let h = c.loop-ring.invariant in
    let sound : IsScript s = c.rings-ring-items.ensures.sound in
    let same_rings : items ≡ s.rings = c.rings-ring-items.ensures.rings in
    let low : k < length s.rings = omega (arith, c.loop-ring-test.true, ap length same_rings) in
    let place : ring_index m.outs.numbers ring ≡ k = kth-place s now m items k sound h.led same_rings c.loop-ring-test.true in
    let end = kth-end s now m items k sound h.led same_rings c.loop-ring-test.true in
    let next : IsNext s.rings k now later = subst (λ rings. IsNext rings k now later) same_rings (c.meet_at.ensures.looked s h.led) in
    let met = meet-behind words k ring m.outs c.meet_at.new.machine.outs c.loop-ring.ins c.meet_at.new.ins (omega (arith, low, ends-of-rings s now m h.led)) place
    c.meet_at.ensures.end c.meet_at.ensures.reader h.readers h.behind in
    let same : SameReaders c.loop-ring.ins c.meet_at.new.ins = met-same words k ring m.outs c.loop-ring.ins c.meet_at.new.ins end.0 end.1 place c.meet_at.ensures.reader h.readers in
    let all_same : SameReaders c.args.ins.now c.meet_at.new.ins = same-then c.args.ins.now c.loop-ring.ins c.meet_at.new.ins h.same same in
    let seen : last_seen ring later ≡ released_in c.loop-ring.ins ring = c.meet_at.ensures.seen s h.led in
    let records : words_in c.args.ins.now ring ≡ words_of (take (records_taken c.args.ins.now ring) (account_in s before (ring, bytes_of s ring)).written) =
    sym (same-words c.args.ins.now c.meet_at.new.ins ring all_same)
    ∙ (c.meet_at.ensures.words s h.led
    ∙ (λ i. words_of (take (same-records c.args.ins.now c.meet_at.new.ins ring all_same i) (written-looked s k before now (ring, bytes_of s ring) h.looked i)))) in
    let part : IsPart s before later c.args.ins.now ring = (seen ∙ same-released c.args.ins.now c.loop-ring.ins ring h.same, records) in
    record {
      led = c.meet_at.ensures.led s h.led;
      looked = looked-next s.rings k before now later sound.rings_rise h.looked low next;
      readers = met.0;
      behind = met.1;
      parts = parts-more k s before now later c.args.ins.now sound.rings_rise low next h.parts
          (subst (λ (rings : List (RingNo × ℕ)). IsPart s before later c.args.ins.now (slice_index_or rings k no_ring).0) same_rings part);
      same = all_same;
      still = λ b.
          let was = h.still b in
          let now_still = met-still words k ring m.outs c.meet_at.new.machine.outs c.loop-ring.ins c.meet_at.new.ins end.0 end.1 place c.meet_at.ensures.end c.meet_at.ensures.reader was.1 in
          let last : last_seen ring later ≡ last_seen ring now =
          seen ∙ (now_still.0 ∙ end-seen s now m ring end.0 h.led (kth-there s now m items k sound h.led same_rings c.loop-ring-test.true) end.1) in
          let none : later ≡ now = no-look s.rings k now later next (subst (λ (rings : List (RingNo × ℕ)). last_seen (slice_index_or rings k no_ring).0 later ≡ last_seen (slice_index_or rings k no_ring).0 now) same_rings last) in
          (none ∙ was.0, now_still.1);
      together = c.meet_at.ensures.together;
      filled = omega (arith, c.meet_at.ensures.filled, h.filled);
      capacity = c.meet_at.ensures.capacity ∙ h.capacity;
    }

pub returns-clause-behind : goal.returns-clause-behind
returns-clause-behind c =
    all-behind (9 * weight c.args.script.now) c.loop-ring.ring-index c.loop-ring.machine.outs c.loop-ring.ins
    (omega (arith, c.loop-ring-test.false, ap length c.rings-ring-items.ensures.rings, ends-of-rings c.args.script.now c.loop-ring.order.items c.loop-ring.machine c.loop-ring.invariant.led))
    c.loop-ring.invariant.readers c.loop-ring.invariant.behind

pub returns-clause-parts : goal.returns-clause-parts
returns-clause-parts c =
    let s : Scripted = c.args.script.now in
    let h = c.loop-ring.invariant in
    let sound : IsScript s = c.rings-ring-items.ensures.sound in
    all-parts c.loop-ring.ring-index s (9 * weight s) c.args.order.now.items c.loop-ring.order.items c.args.machine.now.outs c.args.ins.now (all-declared s sound)
    (omega (arith, c.loop-ring-test.false, ap length c.rings-ring-items.ensures.rings)) (numbers-of s c.args.order.now.items c.args.machine.now c.requires.led)
    (ends-of-rings s c.args.order.now.items c.args.machine.now c.requires.led) sound.rings_rise c.requires.readers h.looked h.parts
