use Rattle.std.proofs.Common.{rules}
use Rattle.sample_ring.proofs.reader.In.take.Goals as goal

pub returns-clause-released : goal.returns-clause-released
returns-clause-released c = search rules

pub returns-clause-fewer : goal.returns-clause-fewer
returns-clause-fewer c = search rules
