use Rattle.std.specs.Prelude.{◌++◌}
use Rattle.report_spec.specs.Published.{final_line, watch_line}
use Rattle.perf_io.proofs.Wrote.{wrote_exit, wrote_then}
use Rattle.perf_top.proofs.run.WatchReportWritten.write_to.Goals as goal

pub returns-in_err-write_report-clause-wrote : goal.returns-in_err-write_report-clause-wrote
returns-in_err-write_report-clause-wrote g c =
    wrote_exit (watch_line c.args.self.now.event c.args.self.now.look ++ final_line c.args.self.now.event c.args.self.now.last) c.from_residual.ensures.0 c.in_err-write_report.ensures.wrote

pub returns-clause-wrote : goal.returns-clause-wrote
returns-clause-wrote g c = wrote_then c.in_ok-write_report.ensures.wrote c.write_looks.ensures.wrote
