use Rattle.line_forms.specs.Forms.{tool_form_of}
use Rattle.script_read.proofs.Fits.{tool_line_fits}
use Rattle.given_lines.proofs.given.on_tool.Goals as goal

pub returns-clause-within : goal.returns-clause-within
returns-clause-within c =
    let tool = rw c.in_ok-tool.ensures.ok_part at c.tool.ensures in
    let line = c.in_ok-line.ensures.ok in
    (rw tool.1 tool.0, tool_line_fits c.args.script.now (tool_form_of c.args.form.now) c.in_ok-line.line c.requires line.0 line.2 line.3)
