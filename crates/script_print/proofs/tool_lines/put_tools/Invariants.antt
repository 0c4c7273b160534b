use Rattle.std.{proofs.Common.{take, []}, specs.Prelude.{flat_map, slice_index_or}}
use Rattle.script_spec.specs.Printing.{tool_forms, line_text}
use Rattle.script_print.proofs.{Whole.{all_tools}, Loops.{IsWritten}}
use Rattle.script_print.proofs.tool_lines.put_tools.Given as goal

abbrev pub invariant-loop-tool : goal.invariant-loop-tool
invariant-loop-tool g l = IsWritten g.K.Sink.shows l.fn.sink l.sink (flat_map line_text (flat_map (λ p. tool_forms l.script.kinds p (slice_index_or l.script.tool_lines p [])) (take l.tool all_tools)))
