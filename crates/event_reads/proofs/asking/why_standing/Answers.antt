use Rattle.std.proofs.Common.{rules}
use Rattle.event_reads.proofs.asking.why_standing.Goals as goal

pub returns-in-Out : goal.returns-in-Out
returns-in-Out c = search rules
