use Rattle.std.proofs.Common.{sym, ap, ◌∙◌, ◌++◌}
use Rattle.perf_io.proofs.Wrote.{wrote_text}
use Rattle.script_print.{specs.Words.{declared_text, lines_text, last_text}, proofs.Whole.{whole_text}}
use Rattle.script_print.proofs.printing.print_script.Goals as goal

pub returns-clause-wrote : goal.returns-clause-wrote
returns-clause-wrote g c =
    let s = c.args.script.now in
    wrote_text (ap (λ acts. declared_text s ++ (lines_text s ++ last_text acts)) c.order-order.ensures.order ∙ sym (whole_text s)) c.put_parts.ensures.wrote
