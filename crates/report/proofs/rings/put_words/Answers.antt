use Rattle.script_print.proofs.Loops.{loop_exit}
use Rattle.perf_io.proofs.Wrote.{wrote_text}
use Rattle.report.proofs.Told.{words_each}
use Rattle.report.proofs.rings.put_words.Goals as goal

pub returns-in_err-write_all-clause-wrote : goal.returns-in_err-write_all-clause-wrote
returns-in_err-write_all-clause-wrote g c =
    loop_exit words_each c.args.words.now c.loop-word.word-index _ c.loop-word-test.true c.loop-word.invariant.wrote c.from_residual.ensures.0 (wrote_text c.word_text.ensures c.in_err-write_all.ensures.wrote)
