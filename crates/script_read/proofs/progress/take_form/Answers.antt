use Rattle.line_forms.specs.Forms.{form_of}
use Rattle.script_read.proofs.Lined.{version_ok, version_bad}
use Rattle.script_read.proofs.progress.take_form.Goals as goal

pub returns-in-Err-clause-bad : goal.returns-in-Err-clause-bad
returns-in-Err-clause-bad c = version_bad (form_of c.args.form.now) c.args.progress.now c.in-Err.fault c.in-Version.is c.in-Err.ensures.bad

pub returns-in-Ok-clause-ok : goal.returns-in-Ok-clause-ok
returns-in-Ok-clause-ok c = version_ok (form_of c.args.form.now) c.args.progress.now c.in-Ok.machine c.in-Version.is c.in-Ok.ensures.ok
