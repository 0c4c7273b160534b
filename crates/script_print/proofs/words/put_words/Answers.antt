use Rattle.std.proofs.Common.{rules}
use Rattle.script_print.proofs.Loops.{words_text, loop_more_is, loop_exit_is}
use Rattle.script_print.proofs.words.put_words.Goals as goal

pub returns-in_err-put_word-clause-wrote : goal.returns-in_err-put_word-clause-wrote
returns-in_err-put_word-clause-wrote g c =
    loop_exit_is words_text c.args.words.now c.loop-word.word-index c.word-item.result c.loop-word-test.true c.word-item.is c.loop-word.invariant.wrote c.from_residual.ensures.0 c.in_err-put_word.ensures.wrote

pub loop-word-preserved : goal.loop-word-preserved
loop-word-preserved g c = record {
  wrote = loop_more_is words_text c.args.words.now c.loop-word.word-index c.word-item.result c.loop-word-test.true c.word-item.is c.loop-word.invariant.wrote c.in_ok-put_word.ensures.wrote;
  flushed = search rules;
}
