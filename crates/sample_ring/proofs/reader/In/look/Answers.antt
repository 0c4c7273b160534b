use Rattle.std.proofs.Common.{rules}
use Rattle.sample_ring.proofs.reader.In.look.Goals as goal

pub returns-clause-end : goal.returns-clause-end
returns-clause-end c = search rules
