use Rattle.std.proofs.Common.{[], ◌∷◌, ◌++◌}
use Rattle.perf_io.proofs.Wrote.{wrote_then, wrote_exit}
use Rattle.script_spec.specs.Acts.{acts_text}
use Rattle.report.proofs.reports.write_order.Goals as goal

pub returns-in_err-write_all-clause-wrote : goal.returns-in_err-write_all-clause-wrote
returns-in_err-write_all-clause-wrote g c = wrote_exit (acts_text c.args.order.now ++ 10 ∷ []) c.from_residual.ensures.0 c.in_err-write_all.ensures.wrote

pub returns-in_err-put_acts-clause-wrote : goal.returns-in_err-put_acts-clause-wrote
returns-in_err-put_acts-clause-wrote g c = wrote_then c.in_ok-write_all.ensures.wrote (wrote_exit (10 ∷ []) c.from_residual-in_err-put_acts.ensures.0 c.in_err-put_acts.ensures.wrote)

pub returns-clause-wrote : goal.returns-clause-wrote
returns-clause-wrote g c = wrote_then c.in_ok-write_all.ensures.wrote (wrote_then c.in_ok-put_acts.ensures.wrote c.write_all-2.ensures.wrote)
