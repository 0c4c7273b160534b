use Rattle.std.{proofs.{Common.{◌<◌, [], ◌∷◌, ◌++◌, length, sym, ap, map, rules}, lemmas.List.{length-map}}, specs.Prelude.{decimal}}
use Rattle.std.specs.List.{join_with_byte}
use Rattle.script_print.{specs.Words.{text}, proofs.Whole.{section_some}}
use Rattle.script_print.proofs.entries.put_section.Goals as goal
use Rattle.perf_io.proofs.Wrote.{wrote_then, wrote_exit, wrote_text}

pub returns-in_err-put_line-clause-wrote : goal.returns-in_err-put_line-clause-wrote
returns-in_err-put_line-clause-wrote g c =
    let forms = map (g.E.Entry.form c.args.script.now) c.args.lines.now in
    let some_lines : 0 < length forms = search (rules, length-map c.args.lines.now (g.E.Entry.form c.args.script.now)) in
    wrote_text (sym (section_some c.args.header.now c.args.number forms some_lines)) (wrote_exit (text forms) c.from_residual.ensures.0 (wrote_text (ap (λ n. join_with_byte 32 (c.args.header.now ∷ decimal n ∷ []) ++ 10 ∷ []) c.from.ensures) c.in_err-put_line.ensures.wrote))

pub returns-clause-wrote : goal.returns-clause-wrote
returns-clause-wrote g c =
    let forms = map (g.E.Entry.form c.args.script.now) c.args.lines.now in
    let some_lines : 0 < length forms = search (rules, length-map c.args.lines.now (g.E.Entry.form c.args.script.now)) in
    wrote_text (sym (section_some c.args.header.now c.args.number forms some_lines)) (wrote_then (wrote_text (ap (λ n. join_with_byte 32 (c.args.header.now ∷ decimal n ∷ []) ++ 10 ∷ []) c.from.ensures) c.in_ok-put_line.ensures.wrote) c.put_entries.ensures.wrote)
