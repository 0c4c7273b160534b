use Rattle.std.proofs.Common.{rules, refl}
use Rattle.line_forms.specs.Forms.{working_of}
use Rattle.script_read.proofs.Counting.{hits_refused}
use Rattle.script_read.proofs.lines.work.Goals as goal

pub returns-in_err-length-clause-bad : goal.returns-in_err-length-clause-bad
returns-in_err-length-clause-bad c = search rules

pub returns-in-Err-clause-bad : goal.returns-in-Err-clause-bad
returns-in-Err-clause-bad c =
    let length = rw c.in_ok-length.ensures.ok_part at c.amount.ensures in
    hits_refused c.args.script.now.kinds (working_of c.args.working.now) c.in-Err.reason length.0 (rw c.again.ensures at c.in-Err.ensures.bad)

pub returns-in-Ok-clause-ok : goal.returns-in-Ok-clause-ok
returns-in-Ok-clause-ok c =
    let length = rw c.in_ok-length.ensures.ok_part at c.amount.ensures in
    let hits = rw c.again.ensures at c.in-Ok.ensures.ok in
    ((length.0, hits.0), hits.1, rw (length.1, c.word.ensures, hits.2) refl)
