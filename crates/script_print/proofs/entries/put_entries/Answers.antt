use Rattle.std.proofs.Common.{rules}
use Rattle.script_print.proofs.{Whole.{each_text}, Loops.{loop_exit_is}}
use Rattle.script_print.proofs.entries.put_entries.Goals as goal

pub returns-in_err-put-clause-wrote : goal.returns-in_err-put-clause-wrote
returns-in_err-put-clause-wrote g c =
    loop_exit_is (each_text (g.E.Entry.form c.args.script.now)) c.args.entries.now c.loop-entry.entry-index c.entry-item.result c.loop-entry-test.true (search rules) c.loop-entry.invariant.wrote c.from_residual.ensures.0 c.in_err-put.ensures.wrote
