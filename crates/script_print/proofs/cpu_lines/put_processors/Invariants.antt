use Rattle.std.{proofs.Common.{take, []}, specs.Prelude.{flat_map, slice_index_or}}
use Rattle.script_spec.specs.Printing.{processor_forms, line_text}
use Rattle.script_print.proofs.{Whole.{all_cpus}, Loops.{IsWritten}}
use Rattle.script_print.proofs.cpu_lines.put_processors.Given as goal

abbrev pub invariant-loop-cpu : goal.invariant-loop-cpu
invariant-loop-cpu g l = IsWritten g.K.Sink.shows l.fn.sink l.sink (flat_map line_text (flat_map (λ p. processor_forms l.script.kinds p (slice_index_or l.script.cpu_lines p [])) (take l.cpu all_cpus)))
