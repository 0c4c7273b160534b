use Rattle.sample_ring.proofs.Fresh.{holds_new}
use Rattle.sample_ring.proofs.making.new_sender.Goals as goal

pub invariant_of-result : goal.invariant_of-result
invariant_of-result c = holds_new c.args.producer c.args.marks.items c.requires.size c.requires.producer c.requires.sound c.requires.marks
