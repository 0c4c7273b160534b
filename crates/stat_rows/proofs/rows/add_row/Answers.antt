use Rattle.std.{specs.Prelude.{◌<◌, ◌^◌, All, [], ◌∷◌, ◌++◌, cond}, proofs.{Common.{ap, subst, sym, ◌∙◌}, lemmas.List.{append-nil}}}
use Rattle.std.proofs.lemmas.List.Elements.{All-push}
use Rattle.stat_table.specs.declared.row.StatRow.{StatRow}
use Rattle.stage_spec.proofs.Tables.{none-open, some-open}
use Rattle.stat_rows.specs.Rows.{row_of}
use Rattle.stat_rows.proofs.rows.add_row.Goals as goal

pub row-requires-clause-sums : goal.row-requires-clause-sums
row-requires-clause-sums c = λ s acts led. (some-open s acts c.args.event c.in-Some.sums (sym c.in-Some.is ∙ c.family.ensures.led s acts led)).1

pub returns-in-Some-clause-rows : goal.returns-in-Some-clause-rows
returns-in-Some-clause-rows c = λ acts led.
    let opened = some-open c.args.script.now acts c.args.event c.in-Some.sums (sym c.in-Some.is ∙ c.family.ensures.led c.args.script.now acts led) in
    c.push_reserved.ensures.items
    ∙ (ap (λ (r : StatRow). c.args.rows.now.items ++ r ∷ []) (c.row.ensures.row acts led)
    ∙ ap (λ b. c.args.rows.now.items ++ cond b (row_of c.args.script.now acts c.args.event ∷ []) []) (sym opened.0))

pub returns-in-Some-clause-small : goal.returns-in-Some-clause-small
returns-in-Some-clause-small c = λ small.
    subst (All (λ (row : StatRow). row.sums.running < 2 ^ 44)) (sym c.push_reserved.ensures.items)
    (All-push (λ (row : StatRow). row.sums.running < 2 ^ 44) c.args.rows.now.items c.row.result small c.row.ensures.small)

pub returns-in_default-clause-rows : goal.returns-in_default-clause-rows
returns-in_default-clause-rows c = λ acts led.
    sym (append-nil c.args.rows.now.items)
    ∙ ap (λ b. c.args.rows.now.items ++ cond b (row_of c.args.script.now acts c.args.event ∷ []) [])
    (sym (none-open c.args.script.now acts c.args.event (sym c.in_default.is ∙ c.family.ensures.led c.args.script.now acts led)))
