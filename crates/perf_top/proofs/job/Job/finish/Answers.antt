use Rattle.std.proofs.Common.{rules}
use Rattle.perf_top.proofs.job.Job.finish.Goals as goal

pub returns-in-Report-clause-ending : goal.returns-in-Report-clause-ending
returns-in-Report-clause-ending c = search rules

pub returns-in-Tabulate-clause-ending : goal.returns-in-Tabulate-clause-ending
returns-in-Tabulate-clause-ending c = search rules
