use Rattle.std.proofs.Common.{rules}
use Rattle.line_forms.specs.Forms.{cpu_form_of}
use Rattle.script_read.proofs.Fits.{cpu_line_fits}
use Rattle.given_lines.proofs.given.on_processor.Goals as goal

pub returns-clause-within : goal.returns-clause-within
returns-clause-within c =
    let cpu = rw (c.in_ok-cpu.ensures.ok_part, c.cpus.ensures.number) at c.cpu.ensures in
    let line = c.in_ok-line.ensures.ok in
    (rw cpu.1 cpu.0, rw line.2 (cpu_line_fits c.args.script.now.kinds (cpu_form_of c.args.form.now) line.0))

pub returns-clause-ok : goal.returns-clause-ok
returns-clause-ok c = search rules
