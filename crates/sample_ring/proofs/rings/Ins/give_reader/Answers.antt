use Rattle.std.proofs.Common.{rules}
use Rattle.sample_ring.proofs.rings.Ins.give_reader.Goals as goal

pub returns : goal.returns
returns c = search rules
