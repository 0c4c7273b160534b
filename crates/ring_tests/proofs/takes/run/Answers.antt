use Rattle.std.proofs.Common.{length}
use Rattle.ring_tests.proofs.Made.{AreEnds, reader_made, ends_made, out_ring, reader_ring, room_made, starts}
use Rattle.ring_tests.proofs.takes.run.Goals as goal

pub reader-requires : goal.reader-requires
reader-requires g c = reader_made c.make_rings.result c.in_ok-rings.rings c.in_ok-rings.outs c.in_ok-rings.ins c.args.bytes (length c.args.words.now) c.make_rings.ensures c.in_ok-rings.ensures.ok_part c.ok.ensures.value

pub run_table-requires : goal.run_table-requires
run_table-requires g c =
    let t = c.table.result.now in
    let o = c.out.result.now in
    let i = c.reader.result.now in
    let words = length c.args.words.now in
    let e : AreEnds t o i words = ends_made c.make_rings.result c.in_ok-rings.rings c.in_ok-rings.outs c.in_ok-rings.ins c.args.bytes words c.make_rings.ensures c.in_ok-rings.ensures.ok_part c.ok.ensures.value t o i c.table.ensures c.out.ensures.value c.reader.ensures.value in
    record { out = out_ring t o i words e; reader = reader_ring t o i words e; before = starts t o i words e; room = room_made t o i words e }
