use Rattle.std.specs.Prelude.{codes}
use Rattle.perf_io.proofs.Wrote.{wrote_exit, wrote_text, wrote_then}
use Rattle.perf_top.proofs.LookText.{sums-are}
use Rattle.perf_top.proofs.run.write_sums.Goals as goal

pub returns-in_err-write_three-clause-wrote : goal.returns-in_err-write_three-clause-wrote
returns-in_err-write_three-clause-wrote g c = wrote_exit (codes "\n") c.from_residual.ensures.0 (wrote_text (sums-are c.args.look) c.in_err-write_three.ensures.wrote)

pub returns-clause-wrote : goal.returns-clause-wrote
returns-clause-wrote g c = wrote_then (wrote_text (sums-are c.args.look) c.in_ok-write_three.ensures.wrote) c.write_all.ensures.wrote
