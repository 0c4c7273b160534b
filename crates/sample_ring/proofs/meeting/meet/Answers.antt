use Rattle.std.proofs.Common.{◌*◌, ap, sym, ◌∙◌}
use Rattle.sample_ring.{specs.{OutEnds.{OutEnd}, contracts.reader.In.{the_view}}, proofs.{Cuts.{records_taken}, Sending.{holds_seen}}}
use Rattle.sample_ring.proofs.meeting.meet.Goals as goal

pub invariant_of-out : goal.invariant_of-out
invariant_of-out c =
    let sound = rw c.meet.ensures.producer at c.meet.ensures.sound.0 in
    let rises = rw c.meet.ensures.producer at c.meet.ensures.rises.0 in
    rw c.meet.ensures.producer (holds_seen c.out.inside.producer c.out.inside.numbers c.out.inside.marks.items (8 * c.reader.inside.consumer.released) _ c.reader.inside.place c.out.invariant c.reader.invariant.released rises sound)

pub returns-clause-records : goal.returns-clause-records
returns-clause-records c = λ a h.
    let published = ap (λ (o : OutEnd). o.producer.published) c.out.view_is in
    let taken = records_taken (the_view c.reader.inside) c.out.inside.producer.published a.written c.reader.invariant.sound c.meet.ensures.prefix (h.written ∙ sym published) h.lawful in
    rw (← c.reader.view_is) taken
