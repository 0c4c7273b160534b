use Rattle.line_forms.specs.Forms.{cpu_form_of}
use Rattle.script_read.proofs.Fits.{cpu_line_fits}
use Rattle.script_read.proofs.state.State.on_processor.Goals as goal

pub add_cpu_line-requires-clause-line : goal.add_cpu_line-requires-clause-line
add_cpu_line-requires-clause-line c =
    let line = c.in_ok-line.ensures.ok in
    rw line.2 (cpu_line_fits c.args.self.now.script.kinds (cpu_form_of c.args.form.now) line.0)
