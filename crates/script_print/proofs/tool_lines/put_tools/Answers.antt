use Rattle.std.proofs.Common.{rules}
use Rattle.script_spec.specs.Printing.{tool_forms}
use Rattle.script_print.proofs.{Whole.{tool_text}, Numbered.{section_exit, section_more}}
use Rattle.script_print.proofs.tool_lines.put_tools.Goals as goal

pub returns-in_err-put_section-clause-wrote : goal.returns-in_err-put_section-clause-wrote
returns-in_err-put_section-clause-wrote g c =
    section_exit (tool_forms c.args.script.now.kinds) _ (tool_text c.args.script.now.kinds) c.args.script.now.tool_lines 4 c.loop-tool.tool c.tool_lines.result.now c.loop-tool-test.true c.tool_lines.ensures.lines c.loop-tool.invariant.wrote c.from_residual.ensures.0 c.in_err-put_section.ensures.wrote

pub loop-tool-preserved : goal.loop-tool-preserved
loop-tool-preserved g c = record {
  wrote = section_more (tool_forms c.args.script.now.kinds) _ (tool_text c.args.script.now.kinds) c.args.script.now.tool_lines 4 c.loop-tool.tool c.tool_lines.result.now c.loop-tool-test.true c.tool_lines.ensures.lines c.loop-tool.invariant.wrote c.in_ok-put_section.ensures.wrote;
  flushed = search rules;
}
