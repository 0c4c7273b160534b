use Rattle.std.proofs.Common.{take}
use Rattle.script_print.proofs.{Hits.{hits_text}, Loops.{IsWritten}}
use Rattle.script_print.proofs.cpu_lines.put_hits.Given as goal

abbrev pub invariant-loop-kind : goal.invariant-loop-kind
invariant-loop-kind g l = IsWritten g.K.Sink.shows l.fn.sink l.sink (hits_text (take l.kind l.script.kinds) l.hits)
