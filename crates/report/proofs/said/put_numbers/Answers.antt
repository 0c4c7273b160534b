use Rattle.script_print.proofs.Loops.{loop_exit}
use Rattle.report.proofs.Entries.{numbers_each}
use Rattle.report.proofs.said.put_numbers.Goals as goal

pub returns-in_err-write_numbered-clause-wrote : goal.returns-in_err-write_numbered-clause-wrote
returns-in_err-write_numbered-clause-wrote g c =
    loop_exit numbers_each c.args.words.now c.loop-word.word-index _ c.loop-word-test.true c.loop-word.invariant.wrote c.from_residual.ensures.0 c.in_err-write_numbered.ensures.wrote
