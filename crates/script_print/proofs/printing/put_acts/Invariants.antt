use Rattle.std.proofs.Common.{take}
use Rattle.script_spec.specs.Acts.{acts_text}
use Rattle.script_print.proofs.Loops.{IsWritten}
use Rattle.script_print.proofs.printing.put_acts.Given as goal

abbrev pub invariant-loop-act : goal.invariant-loop-act
invariant-loop-act g l = IsWritten g.K.Sink.shows l.fn.sink l.sink (acts_text (take l.act-index l.acts))
