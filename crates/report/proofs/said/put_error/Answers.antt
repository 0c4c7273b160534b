use Rattle.perf_io.proofs.Wrote.{wrote_then, wrote_exit}
use Rattle.report_spec.specs.Report.{cause_text}
use Rattle.report.proofs.said.put_error.Goals as goal

pub returns-in_err-write_all-clause-wrote : goal.returns-in_err-write_all-clause-wrote
returns-in_err-write_all-clause-wrote g c = wrote_exit (cause_text c.args.cause.now) c.from_residual.ensures.0 c.in_err-write_all.ensures.wrote

pub returns-clause-wrote : goal.returns-clause-wrote
returns-clause-wrote g c = wrote_then c.in_ok-write_all.ensures.wrote c.put_cause.ensures.wrote
