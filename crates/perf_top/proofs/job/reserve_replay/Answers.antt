use Rattle.std.proofs.Common.{rules}
use Rattle.perf_top.proofs.job.reserve_replay.Goals as goal

pub returns-in-Ok-clause-refused : goal.returns-in-Ok-clause-refused
returns-in-Ok-clause-refused c = search rules
