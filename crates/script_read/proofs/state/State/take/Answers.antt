use Rattle.std.proofs.Common.{rules}
use Rattle.script_read.proofs.state.State.take.Goals as goal

pub returns-then-not-reaches-clause-bad : goal.returns-then-not-reaches-clause-bad
returns-then-not-reaches-clause-bad c = search rules
