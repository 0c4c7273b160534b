use Rattle.std.proofs.Common.{take}
use Rattle.script_print.{specs.Words.{all_word_texts, spaced}, proofs.Loops.{IsWritten}}
use Rattle.script_print.proofs.words.put_words.Given as goal

abbrev pub invariant-loop-word : goal.invariant-loop-word
invariant-loop-word g l = IsWritten g.K.Sink.shows l.fn.sink l.sink (spaced (all_word_texts (take l.word-index l.words)))
