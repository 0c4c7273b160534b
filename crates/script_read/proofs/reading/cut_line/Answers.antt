use Rattle.script_read.proofs.Cutting.{no_line, next_line_is}
use Rattle.script_read.proofs.reading.cut_line.Goals as goal

pub returns-in_err-back : goal.returns-in_err-back
returns-in_err-back c = rw c.from_residual.ensures (no_line c.args.text.now c.cut.result.0.now (rw c.in_err-back.was at c.cut.ensures))

pub returns : goal.returns
returns c = next_line_is c.args.text.now c.cut.result.0.now c.in_ok-back.field-0.now (rw c.in_ok-back.was at c.cut.ensures)
