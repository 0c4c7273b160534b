use Rattle.std.proofs.{Common.{ℕ, [], lit≤, refl}, lemmas.List.Elements.{All-cons, All-nil}}
use Rattle.perf_base.specs.{declared.numbers.RingNo.{RingNo}, Scripts.{IsRingSize}}
use Rattle.ring_tests.proofs.Made.{AreEnds, reader_made, ends_made, out_ring, reader_ring}
use Rattle.ring_tests.proofs.sends.full_store_takes_no_more.Goals as goal

abbrev HasSize : RingNo × ℕ → Type 0
HasSize s = IsRingSize s.1

pub make_rings-requires : goal.make_rings-requires
make_rings-requires g c = All-cons HasSize (record { 0 = 3 }, 64) [] (6, lit≤ tt, lit≤ tt, refl) (All-nil HasSize)

pub reader-requires : goal.reader-requires
reader-requires g c = reader_made c.make_rings.result c.in_ok-rings.rings c.in_ok-rings.outs c.in_ok-rings.ins 64 3 c.make_rings.ensures c.in_ok-rings.ensures.ok_part c.ok.ensures.value

pub take_past_the_room-requires : goal.take_past_the_room-requires
take_past_the_room-requires g c =
    let t = c.table.result.now in
    let o = c.out.result.now in
    let i = c.reader.result.now in
    let e : AreEnds t o i 3 = ends_made c.make_rings.result c.in_ok-rings.rings c.in_ok-rings.outs c.in_ok-rings.ins 64 3 c.make_rings.ensures c.in_ok-rings.ensures.ok_part c.ok.ensures.value t o i c.table.ensures c.out.ensures.value c.reader.ensures.value in
    record { out = out_ring t o i 3 e; reader = reader_ring t o i 3 e }
