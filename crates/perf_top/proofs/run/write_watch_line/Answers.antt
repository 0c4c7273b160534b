use Rattle.std.{specs.Prelude.{◌++◌, ℕ, codes, decimal}, proofs.Common.{ap, ◌∙◌}}
use Rattle.report_spec.specs.Published.{look_text}
use Rattle.perf_io.proofs.Wrote.{wrote_exit, wrote_text, wrote_then}
use Rattle.perf_top.proofs.LookText.{behind}
use Rattle.perf_top.proofs.run.write_watch_line.Goals as goal

pub returns-in_err-write_two-clause-wrote : goal.returns-in_err-write_two-clause-wrote
returns-in_err-write_two-clause-wrote g c =
    wrote_text (behind (codes "watch " ++ decimal c.from.result ++ codes " at=" ++ decimal c.args.look.at) (look_text c.args.look) (codes "\n") ∙ ap (λ (n : ℕ). codes "watch " ++ decimal n ++ codes " at=" ++ decimal c.args.look.at ++ look_text c.args.look ++ codes "\n") c.from.ensures)
    (wrote_exit (look_text c.args.look ++ codes "\n") c.from_residual.ensures.0 c.in_err-write_two.ensures.wrote)

pub returns-clause-wrote : goal.returns-clause-wrote
returns-clause-wrote g c =
    wrote_text (behind (codes "watch " ++ decimal c.from.result ++ codes " at=" ++ decimal c.args.look.at) (look_text c.args.look) (codes "\n") ∙ ap (λ (n : ℕ). codes "watch " ++ decimal n ++ codes " at=" ++ decimal c.args.look.at ++ look_text c.args.look ++ codes "\n") c.from.ensures)
    (wrote_then c.in_ok-write_two.ensures.wrote c.write_sums.ensures.wrote)
