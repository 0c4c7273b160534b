use Rattle.std.{proofs.Common.{take}, specs.Prelude.{flat_map}}
use Rattle.script_spec.specs.Printing.{pmu_forms, line_text}
use Rattle.script_print.proofs.Loops.{IsWritten}
use Rattle.script_print.proofs.declared.put_pmus.Given as goal

abbrev pub invariant-loop-pmu : goal.invariant-loop-pmu
invariant-loop-pmu g l = IsWritten g.K.Sink.shows l.fn.sink l.sink (flat_map line_text (pmu_forms 0 (take l.pmu l.script.pmus)))
