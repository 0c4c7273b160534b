use Rattle.std.proofs.Common.{rules}
use Rattle.perf_share.proofs.share.Share.call.Goals as goal

pub returns-clause-answer : goal.returns-clause-answer
returns-clause-answer c = search rules
