use Rattle.ring_spec.proofs.Sizes.{whole_look_law}
use Rattle.ring_spec.proofs.laws.whole_looks_are_lawful.Goals as goal

pub returns : goal.returns
returns c = whole_look_law
