use Rattle.std.proofs.{Common.{ℕ, [], lit≤, refl}, lemmas.List.Elements.{All-cons, All-nil}}
use Rattle.perf_base.specs.{declared.numbers.RingNo.{RingNo}, Scripts.{IsRingSize}}
use Rattle.ring_tests.proofs.Made.{reader_made}
use Rattle.ring_tests.proofs.sends.cross_ends.Goals as goal

abbrev HasSize : RingNo × ℕ → Type 0
HasSize s = IsRingSize s.1

pub make_rings-requires : goal.make_rings-requires
make_rings-requires c = All-cons HasSize (record { 0 = 3 }, 64) [] (6, lit≤ tt, lit≤ tt, refl) (All-nil HasSize)

pub take_reader-requires : goal.take_reader-requires
take_reader-requires c = reader_made c.make_rings.result c.in_ok-rings.rings c.in_ok-rings.outs c.in_ok-rings.ins 64 9 c.make_rings.ensures c.in_ok-rings.ensures.ok_part c.ok.ensures.value
