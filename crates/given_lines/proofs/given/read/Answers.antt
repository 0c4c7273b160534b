use Rattle.line_forms.specs.Forms.{version_of, form_of, act_of}
use Rattle.given_lines.proofs.{Actors.{with_form, formless}, Lines.{form_bad, line_says, line_refuses}}
use Rattle.given_lines.proofs.given.read.Goals as goal

pub returns-in_default-clause-bad : goal.returns-in_default-clause-bad
returns-in_default-clause-bad c = form_bad c.args.script.now (version_of c.args.version) c.args.line.now (c.is_printable.ensures.0 cc) (c.in_default.ensures (version_of c.args.version))

pub returns-clause-ok : goal.returns-clause-ok
returns-clause-ok c =
    let v = version_of c.args.version in
    let a = act_of c.in-Some.actor in
    let f = form_of c.in-Some-read_form.form in
    line_says c.args.script.now v c.args.line.now a f (c.is_printable.ensures.0 cc) (with_form v c.args.line.now c.in-Some.behind.now a f c.in-Some.ensures c.in-Some-read_form.ensures.ok) c.line_of.result c.line_of.ensures.ok

pub returns-clause-bad : goal.returns-clause-bad
returns-clause-bad c =
    let v = version_of c.args.version in
    let a = act_of c.in-Some.actor in
    let f = form_of c.in-Some-read_form.form in
    line_refuses c.args.script.now v c.args.line.now a f (c.is_printable.ensures.0 cc) (with_form v c.args.line.now c.in-Some.behind.now a f c.in-Some.ensures c.in-Some-read_form.ensures.ok) c.line_of.result c.line_of.ensures.bad

pub returns-in_default-read_form-clause-bad : goal.returns-in_default-read_form-clause-bad
returns-in_default-read_form-clause-bad c =
    let v = version_of c.args.version in
    let none = formless v c.args.line.now c.in-Some.behind.now (act_of c.in-Some.actor) c.in-Some.ensures (c.read_form.ensures.none c.in_default-read_form.is) in
    form_bad c.args.script.now v c.args.line.now (c.is_printable.ensures.0 cc) none
