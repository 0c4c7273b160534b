use Rattle.std.proofs.Common.{rules, ◌≡◌, ◌∙◌, sym, false}
use Rattle.line_forms.specs.Forms.{form_of, version_of}
use Rattle.script_read.{specs.Progress.{ended_of}, proofs.{Beginning.{ended_false, ascii_faulty, form_faulty}, Lined.{ok_then, err_then, line_ok, line_bad}}}
use Rattle.script_read.proofs.progress.take_line.Goals as goal

pub returns-then-has_ended-clause-bad : goal.returns-then-has_ended-clause-bad
returns-then-has_ended-clause-bad c = search rules

pub returns-then-not-is_printable-clause-bad : goal.returns-then-not-is_printable-clause-bad
returns-then-not-is_printable-clause-bad c = λ forms b.
    let e : ended_of c.args.progress.now ≡ false = sym c.has_ended.ensures ∙ c.if-has_ended.false in
    ascii_faulty (version_of c.args.version) forms c.args.line.now (ended_false forms c.args.progress.now b e) (λ all. let t = c.requires.printable.1 all in absurd cc)

pub returns-in_default-clause-bad : goal.returns-in_default-clause-bad
returns-in_default-clause-bad c = λ forms b.
    let e : ended_of c.args.progress.now ≡ false = sym c.has_ended.ensures ∙ c.if-has_ended.false in
    form_faulty (version_of c.args.version) forms c.args.line.now (ended_false forms c.args.progress.now b e) (c.requires.printable.0 cc) (c.read_form.ensures.none c.in_default.is)

pub returns-clause-ok : goal.returns-clause-ok
returns-clause-ok c =
    let e : ended_of c.args.progress.now ≡ false = sym c.has_ended.ensures ∙ c.if-has_ended.false in
    ok_then c.take_form.result _ _ (line_ok (version_of c.args.version) c.args.line.now (form_of c.in-Some.form) c.args.progress.now e (c.requires.printable.0 cc) c.in-Some.ensures.ok c.in-Some.ensures.one c.take_form.new.progress)
    c.take_form.ensures.ok

pub returns-clause-bad : goal.returns-clause-bad
returns-clause-bad c =
    let e : ended_of c.args.progress.now ≡ false = sym c.has_ended.ensures ∙ c.if-has_ended.false in
    err_then c.take_form.result _ _ (line_bad (version_of c.args.version) c.args.line.now (form_of c.in-Some.form) c.args.progress.now e (c.requires.printable.0 cc) c.in-Some.ensures.ok c.in-Some.ensures.one) c.take_form.ensures.bad
