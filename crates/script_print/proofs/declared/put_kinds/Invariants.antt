use Rattle.std.{proofs.Common.{take, length}, specs.Prelude.{flat_map, map}}
use Rattle.script_spec.specs.Printing.{kind_form, line_text}
use Rattle.script_print.proofs.Loops.{IsWritten}
use Rattle.script_print.proofs.declared.put_kinds.Given as goal

abbrev pub invariant-loop-kind : goal.invariant-loop-kind
invariant-loop-kind g l = IsWritten g.K.Sink.shows l.fn.sink l.sink (flat_map line_text (map (kind_form (length l.script.pmus)) (take l.kind l.script.kinds)))
