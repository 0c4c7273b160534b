use Rattle.std.proofs.Common.{rules}
use Rattle.std.proofs.Common.{arith}
use Rattle.event_counts.proofs.OneByOne.{bursts}
use Rattle.event_counts.proofs.count_acc.CountAcc.hit.Goals as goal

pub returns-clause-counts : goal.returns-clause-counts
returns-clause-counts c = grind (arith, bursts)

pub returns-clause-overflows : goal.returns-clause-overflows
returns-clause-overflows c = grind (arith, bursts)

pub invariant_of-self-then-n-self : goal.invariant_of-self-then-n-self
invariant_of-self-then-n-self g c = search rules
