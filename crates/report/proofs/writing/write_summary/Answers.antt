use Rattle.std.proofs.Common.{ap, ◌++◌, codes}
use Rattle.perf_io.proofs.Wrote.{wrote_exit, wrote_text, wrote_then}
use Rattle.report.specs.Summary.{number_line}
use Rattle.report.proofs.writing.write_summary.Goals as goal

pub returns-in_err-put_line-clause-wrote : goal.returns-in_err-put_line-clause-wrote
returns-in_err-put_line-clause-wrote g c =
    let t = c.args.summary.now.totals in
    wrote_exit (number_line (codes "lines ") t.lines ++ (number_line (codes "sum ") t.sum ++ (number_line (codes "records ") t.records ++ (number_line (codes "lost ") t.lost ++ codes "end\n"))))
    c.from_residual.ensures.0 (wrote_text (ap (number_line (codes "make ")) c.from.ensures) c.in_err-put_line.ensures.wrote)

pub returns-in_err-put_line-2-clause-wrote : goal.returns-in_err-put_line-2-clause-wrote
returns-in_err-put_line-2-clause-wrote g c =
    let t = c.args.summary.now.totals in
    wrote_then (wrote_text (ap (number_line (codes "make ")) c.from.ensures) c.in_ok-put_line.ensures.wrote)
    (wrote_exit (number_line (codes "sum ") t.sum ++ (number_line (codes "records ") t.records ++ (number_line (codes "lost ") t.lost ++ codes "end\n")))
    c.from_residual-in_err-put_line-2.ensures.0 (wrote_text (ap (number_line (codes "lines ")) c.from-2.ensures) c.in_err-put_line-2.ensures.wrote))

pub returns-in_err-put_line-3-clause-wrote : goal.returns-in_err-put_line-3-clause-wrote
returns-in_err-put_line-3-clause-wrote g c =
    let t = c.args.summary.now.totals in
    wrote_then (wrote_text (ap (number_line (codes "make ")) c.from.ensures) c.in_ok-put_line.ensures.wrote)
    (wrote_then (wrote_text (ap (number_line (codes "lines ")) c.from-2.ensures) c.in_ok-put_line-2.ensures.wrote)
    (wrote_exit (number_line (codes "records ") t.records ++ (number_line (codes "lost ") t.lost ++ codes "end\n"))
    c.from_residual-in_err-put_line-3.ensures.0 c.in_err-put_line-3.ensures.wrote))

pub returns-in_err-put_line-4-clause-wrote : goal.returns-in_err-put_line-4-clause-wrote
returns-in_err-put_line-4-clause-wrote g c =
    wrote_then (wrote_text (ap (number_line (codes "make ")) c.from.ensures) c.in_ok-put_line.ensures.wrote)
    (wrote_then (wrote_text (ap (number_line (codes "lines ")) c.from-2.ensures) c.in_ok-put_line-2.ensures.wrote)
    (wrote_then c.in_ok-put_line-3.ensures.wrote
    (wrote_exit (number_line (codes "lost ") c.args.summary.now.totals.lost ++ codes "end\n") c.from_residual-in_err-put_line-4.ensures.0 c.in_err-put_line-4.ensures.wrote)))

pub returns-in_err-put_line-5-clause-wrote : goal.returns-in_err-put_line-5-clause-wrote
returns-in_err-put_line-5-clause-wrote g c =
    wrote_then (wrote_text (ap (number_line (codes "make ")) c.from.ensures) c.in_ok-put_line.ensures.wrote)
    (wrote_then (wrote_text (ap (number_line (codes "lines ")) c.from-2.ensures) c.in_ok-put_line-2.ensures.wrote)
    (wrote_then c.in_ok-put_line-3.ensures.wrote (wrote_then c.in_ok-put_line-4.ensures.wrote
    (wrote_exit (codes "end\n") c.from_residual-in_err-put_line-5.ensures.0 c.in_err-put_line-5.ensures.wrote))))

pub returns-clause-wrote : goal.returns-clause-wrote
returns-clause-wrote g c =
    wrote_then (wrote_text (ap (number_line (codes "make ")) c.from.ensures) c.in_ok-put_line.ensures.wrote)
    (wrote_then (wrote_text (ap (number_line (codes "lines ")) c.from-2.ensures) c.in_ok-put_line-2.ensures.wrote)
    (wrote_then c.in_ok-put_line-3.ensures.wrote (wrote_then c.in_ok-put_line-4.ensures.wrote (wrote_then c.in_ok-put_line-5.ensures.wrote c.write_all.ensures.wrote))))
