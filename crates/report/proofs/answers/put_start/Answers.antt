use Rattle.std.proofs.Common.{ap, ◌++◌, codes, decimal}
use Rattle.perf_io.proofs.Wrote.{wrote_then, wrote_exit, wrote_text}
use Rattle.report_spec.specs.Report.{line_word}
use Rattle.report.proofs.answers.put_start.Goals as goal

pub returns-in_err-put_actor-clause-wrote : goal.returns-in_err-put_actor-clause-wrote
returns-in_err-put_actor-clause-wrote g c =
    wrote_exit ((codes "." ++ decimal c.args.number) ++ (codes " " ++ line_word c.args.script.now c.args.actor c.args.number)) c.from_residual.ensures.0 c.in_err-put_actor.ensures.wrote

pub returns-in_err-put_number-clause-wrote : goal.returns-in_err-put_number-clause-wrote
returns-in_err-put_number-clause-wrote g c =
    wrote_then c.in_ok-put_actor.ensures.wrote
    (wrote_exit (codes " " ++ line_word c.args.script.now c.args.actor c.args.number) c.from_residual-in_err-put_number.ensures.0 c.in_err-put_number.ensures.wrote)

pub returns-clause-wrote : goal.returns-clause-wrote
returns-clause-wrote g c =
    wrote_then c.in_ok-put_actor.ensures.wrote (wrote_then c.in_ok-put_number.ensures.wrote (wrote_text (ap (λ w. codes " " ++ w) c.line_word.ensures) c.put_word.ensures.wrote))
