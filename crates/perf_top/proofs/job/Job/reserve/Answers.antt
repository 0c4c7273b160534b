use Rattle.std.proofs.Common.{rules}
use Rattle.perf_top.proofs.job.Job.reserve.Goals as goal

pub returns-in-Attr-clause-ok : goal.returns-in-Attr-clause-ok
returns-in-Attr-clause-ok c = search rules

pub returns-in-Replay-clause-refused : goal.returns-in-Replay-clause-refused
returns-in-Replay-clause-refused c = search rules

pub returns-in-Stat-clause-refused : goal.returns-in-Stat-clause-refused
returns-in-Stat-clause-refused c = search rules
