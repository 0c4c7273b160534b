use Rattle.ring_spec.proofs.Running.{replies_law}
use Rattle.ring_spec.proofs.laws.replies_go_by_the_record.Goals as goal

pub returns : goal.returns
returns c = replies_law
