use Rattle.std.proofs.Common.{[], ◌∷◌, ◌++◌}
use Rattle.perf_io.proofs.Wrote.{wrote_then, wrote_exit, wrote_text}
use Rattle.report.specs.Told.{words_text}
use Rattle.report.proofs.rings.put_record.Goals as goal

pub returns-in_err-write_all-clause-wrote : goal.returns-in_err-write_all-clause-wrote
returns-in_err-write_all-clause-wrote g c = wrote_exit (words_text c.args.words.now ++ 10 ∷ []) c.from_residual.ensures.0 (wrote_text c.fate.ensures c.in_err-write_all.ensures.wrote)

pub returns-in_err-put_words-clause-wrote : goal.returns-in_err-put_words-clause-wrote
returns-in_err-put_words-clause-wrote g c =
    wrote_then (wrote_text c.fate.ensures c.in_ok-write_all.ensures.wrote) (wrote_exit (10 ∷ []) c.from_residual-in_err-put_words.ensures.0 c.in_err-put_words.ensures.wrote)

pub returns-clause-wrote : goal.returns-clause-wrote
returns-clause-wrote g c = wrote_then (wrote_text c.fate.ensures c.in_ok-write_all.ensures.wrote) (wrote_then c.in_ok-put_words.ensures.wrote c.write_all-2.ensures.wrote)
