use Rattle.std.specs.Prelude.{◌++◌, decimal}
use Rattle.perf_io.proofs.Wrote.{wrote_exit, wrote_text, wrote_then}
use Rattle.perf_top.proofs.LookText.{behind}
use Rattle.perf_top.proofs.run.write_three.Goals as goal

pub returns-in_err-write_two-clause-wrote : goal.returns-in_err-write_two-clause-wrote
returns-in_err-write_two-clause-wrote g c =
    wrote_text (behind (c.args.before.now ++ decimal c.args.first ++ c.args.before.now ++ decimal c.args.second) c.args.before.now (decimal c.args.third))
    (wrote_exit (c.args.before.now ++ decimal c.args.third) c.from_residual.ensures.0 c.in_err-write_two.ensures.wrote)

pub returns-clause-wrote : goal.returns-clause-wrote
returns-clause-wrote g c =
    wrote_text (behind (c.args.before.now ++ decimal c.args.first ++ c.args.before.now ++ decimal c.args.second) c.args.before.now (decimal c.args.third))
    (wrote_then c.in_ok-write_two.ensures.wrote c.write_numbered.ensures.wrote)
