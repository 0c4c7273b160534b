use Rattle.ring_tests.proofs.Made.{reader_made, ends_made, out_ring, reader_ring}
use Rattle.ring_tests.proofs.sends.share.Goals as goal

pub reader-requires : goal.reader-requires
reader-requires g c = reader_made c.make_rings.result c.in_ok-rings.rings c.in_ok-rings.outs c.in_ok-rings.ins c.args.bytes 600000 c.make_rings.ensures c.in_ok-rings.ensures.ok_part c.ok.ensures.value

pub send_and_take-requires-clause-out : goal.send_and_take-requires-clause-out
send_and_take-requires-clause-out g c k h =
    out_ring c.table.result.now c.out.result.now c.reader.result.now 600000 (ends_made c.make_rings.result c.in_ok-rings.rings c.in_ok-rings.outs c.in_ok-rings.ins c.args.bytes 600000 c.make_rings.ensures c.in_ok-rings.ensures.ok_part c.ok.ensures.value c.table.result.now c.out.result.now c.reader.result.now c.table.ensures c.out.ensures.value c.reader.ensures.value)

pub send_and_take-requires-clause-reader : goal.send_and_take-requires-clause-reader
send_and_take-requires-clause-reader g c k h =
    reader_ring c.table.result.now c.out.result.now c.reader.result.now 600000 (ends_made c.make_rings.result c.in_ok-rings.rings c.in_ok-rings.outs c.in_ok-rings.ins c.args.bytes 600000 c.make_rings.ensures c.in_ok-rings.ensures.ok_part c.ok.ensures.value c.table.result.now c.out.result.now c.reader.result.now c.table.ensures c.out.ensures.value c.reader.ensures.value)
