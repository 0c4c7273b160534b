use Rattle.std.{specs.Prelude.{[], ◌∷◌, ◌++◌, codes}, proofs.Common.{ap}}
use Rattle.perf_io.proofs.Wrote.{wrote_exit, wrote_text, wrote_then}
use Rattle.script_spec.specs.Acts.{acts_text}
use Rattle.report_spec.specs.Report.{answer_lines}
use Rattle.report.{specs.Told.{all_told, rings_of}, proofs.{Entries.{report-parts}, Told.{told_whole}}}
use Rattle.report.proofs.reports.write_report.Goals as goal
use Rattle.run_end.specs.Ended.{Ran}

pub returns-in_err-write_order-clause-wrote : goal.returns-in_err-write_order-clause-wrote
returns-in_err-write_order-clause-wrote g c =
    let r : Ran = c.args.ended.now in
    wrote_text (report-parts r.script r.order r.answers (rings_of r))
    (wrote_exit (answer_lines r.script r.answers ++ (all_told (rings_of r) ++ codes "end\n")) c.from_residual.ensures.0
    (wrote_text (ap (λ order. codes "order" ++ (acts_text order ++ 10 ∷ [])) c.order.ensures) c.in_err-write_order.ensures.wrote))

pub returns-in_err-write_answers-clause-wrote : goal.returns-in_err-write_answers-clause-wrote
returns-in_err-write_answers-clause-wrote g c =
    let r : Ran = c.args.ended.now in
    wrote_text (report-parts r.script r.order r.answers (rings_of r))
    (wrote_then (wrote_text (ap (λ order. codes "order" ++ (acts_text order ++ 10 ∷ [])) c.order.ensures) c.in_ok-write_order.ensures.wrote)
    (wrote_exit (all_told (rings_of r) ++ codes "end\n") c.from_residual-in_err-write_answers.ensures.0
    (wrote_text (λ i. answer_lines (c.script.ensures i) (c.answers.ensures i)) c.in_err-write_answers.ensures.wrote)))

pub returns-in_err-write_rings-clause-wrote : goal.returns-in_err-write_rings-clause-wrote
returns-in_err-write_rings-clause-wrote g c =
    let r : Ran = c.args.ended.now in
    wrote_text (report-parts r.script r.order r.answers (rings_of r))
    (wrote_then (wrote_text (ap (λ order. codes "order" ++ (acts_text order ++ 10 ∷ [])) c.order.ensures) c.in_ok-write_order.ensures.wrote)
    (wrote_then (wrote_text (λ i. answer_lines (c.script.ensures i) (c.answers.ensures i)) c.in_ok-write_answers.ensures.wrote)
    (wrote_exit (codes "end\n") c.from_residual-in_err-write_rings.ensures.0 c.in_err-write_rings.ensures.wrote)))

pub returns-clause-wrote : goal.returns-clause-wrote
returns-clause-wrote g c =
    let r : Ran = c.args.ended.now in
    wrote_text (report-parts r.script r.order r.answers (rings_of r))
    (wrote_then (wrote_text (ap (λ order. codes "order" ++ (acts_text order ++ 10 ∷ [])) c.order.ensures) c.in_ok-write_order.ensures.wrote)
    (wrote_then (wrote_text (λ i. answer_lines (c.script.ensures i) (c.answers.ensures i)) c.in_ok-write_answers.ensures.wrote)
    (wrote_then c.in_ok-write_rings.ensures.wrote c.write_end.ensures.wrote)))

pub returns-in_err-write_order-clause-accounts : goal.returns-in_err-write_order-clause-accounts
returns-in_err-write_order-clause-accounts g c accounts h = wrote_text (told_whole _ _ _ _ accounts h) (returns-in_err-write_order-clause-wrote g c)

pub returns-in_err-write_answers-clause-accounts : goal.returns-in_err-write_answers-clause-accounts
returns-in_err-write_answers-clause-accounts g c accounts h = wrote_text (told_whole _ _ _ _ accounts h) (returns-in_err-write_answers-clause-wrote g c)

pub returns-in_err-write_rings-clause-accounts : goal.returns-in_err-write_rings-clause-accounts
returns-in_err-write_rings-clause-accounts g c accounts h = wrote_text (told_whole _ _ _ _ accounts h) (returns-in_err-write_rings-clause-wrote g c)

pub returns-clause-accounts : goal.returns-clause-accounts
returns-clause-accounts g c accounts h = wrote_text (told_whole _ _ _ _ accounts h) (returns-clause-wrote g c)
