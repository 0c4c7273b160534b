use Rattle.std.{proofs.Common.{take}, specs.Prelude.{map}}
use Rattle.script_print.{specs.Words.{text}, proofs.Loops.{IsWritten}}
use Rattle.script_print.proofs.entries.put_entries.Given as goal

abbrev pub invariant-loop-entry : goal.invariant-loop-entry
invariant-loop-entry g l = IsWritten g.K.Sink.shows l.fn.sink l.sink (text (map (g.E.Entry.form l.script) (take l.entry-index l.entries)))
