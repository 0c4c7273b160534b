use Rattle.std.proofs.Common.{rules}
use Rattle.sample_ring.proofs.sender.Out.look.Goals as goal

pub returns-clause-end : goal.returns-clause-end
returns-clause-end c = search rules
