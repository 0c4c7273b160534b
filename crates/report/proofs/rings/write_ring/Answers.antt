use Rattle.perf_io.proofs.Wrote.{wrote_then, wrote_exit, wrote_text}
use Rattle.report.{specs.Told.{cut_lines, cut_records}, proofs.Told.{told_account}}
use Rattle.report.proofs.rings.write_ring.Goals as goal

pub returns-in_err-put_numbers-clause-wrote : goal.returns-in_err-put_numbers-clause-wrote
returns-in_err-put_numbers-clause-wrote g c =
    wrote_exit (cut_lines c.args.numbers.now.tail 0 (cut_records c.args.words.now)) c.from_residual.ensures.0 c.in_err-put_numbers.ensures.wrote

pub returns-in_err-put_numbers-clause-account : goal.returns-in_err-put_numbers-clause-account
returns-in_err-put_numbers-clause-account g c a h =
    wrote_text (told_account c.args.ring c.args.numbers.now c.args.words.now a h) (returns-in_err-put_numbers-clause-wrote g c)

pub returns-clause-wrote : goal.returns-clause-wrote
returns-clause-wrote g c = wrote_then c.in_ok-put_numbers.ensures.wrote c.put_records.ensures.wrote

pub returns-clause-account : goal.returns-clause-account
returns-clause-account g c a h = wrote_text (told_account c.args.ring c.args.numbers.now c.args.words.now a h) (returns-clause-wrote g c)
