use Rattle.report_spec.specs.Published.{final_line}
use Rattle.perf_io.proofs.Wrote.{wrote_exit, wrote_then}
use Rattle.perf_top.proofs.run.write_looks.Goals as goal

pub returns-in_err-write_watch_line-clause-wrote : goal.returns-in_err-write_watch_line-clause-wrote
returns-in_err-write_watch_line-clause-wrote g c = wrote_exit (final_line c.args.event c.args.last) c.from_residual.ensures.0 c.in_err-write_watch_line.ensures.wrote

pub returns-clause-wrote : goal.returns-clause-wrote
returns-clause-wrote g c = wrote_then c.in_ok-write_watch_line.ensures.wrote c.write_final_line.ensures.wrote
