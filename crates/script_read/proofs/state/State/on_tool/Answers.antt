use Rattle.std.proofs.{Common.{refl}, lemmas.Result.{err_from_is_err_and}}
use Rattle.line_forms.specs.Forms.{tool_form_of}
use Rattle.script_read.proofs.{Fits.{tool_line_fits}, Taken.{tool_refused}}
use Rattle.script_read.proofs.state.State.on_tool.Goals as goal

pub returns-in_err-line-clause-bad : goal.returns-in_err-line-clause-bad
returns-in_err-line-clause-bad c =
    let p = err_from_is_err_and c.from_residual-in_err-line.result c.from_residual-in_err-line.ensures.1 in
    rw (p.1, p.2) (tool_refused c.args.self.now (tool_form_of c.args.form.now) c.in_err-line.field-0.0 (rw c.in_ok-tool.ensures.ok_part refl) c.in_err-line.ensures.bad)

pub add_tool_line-requires-clause-line : goal.add_tool_line-requires-clause-line
add_tool_line-requires-clause-line c =
    let line = c.in_ok-line.ensures.ok in
    tool_line_fits c.args.self.now.script (tool_form_of c.args.form.now) c.in_ok-line.line c.requires.spelling line.0 line.2 line.3
