use Rattle.script_spec.specs.Forms.{flags_text}
use Rattle.perf_io.proofs.Wrote.{wrote_exit, wrote_then}
use Rattle.script_print.proofs.words.put_flags_word.Goals as goal

pub returns-in_err-put_two-clause-wrote : goal.returns-in_err-put_two-clause-wrote
returns-in_err-put_two-clause-wrote g c = wrote_exit (flags_text c.args.flags.0) c.from_residual.ensures.0 c.in_err-put_two.ensures.wrote

pub returns-clause-wrote : goal.returns-clause-wrote
returns-clause-wrote g c = wrote_then c.in_ok-put_two.ensures.wrote c.put_flags.ensures.wrote
