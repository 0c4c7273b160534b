use Rattle.std.proofs.Common.{rules}
use Rattle.script_spec.specs.Printing.{processor_forms}
use Rattle.script_print.proofs.{Whole.{processor_text}, Numbered.{section_exit, section_more}}
use Rattle.script_print.proofs.cpu_lines.put_processors.Goals as goal

pub returns-in_err-put_section-clause-wrote : goal.returns-in_err-put_section-clause-wrote
returns-in_err-put_section-clause-wrote g c =
    section_exit (processor_forms c.args.script.now.kinds) _ (processor_text c.args.script.now.kinds) c.args.script.now.cpu_lines 8 c.loop-cpu.cpu c.cpu_lines.result.now c.loop-cpu-test.true c.cpu_lines.ensures.lines c.loop-cpu.invariant.wrote c.from_residual.ensures.0 c.in_err-put_section.ensures.wrote

pub loop-cpu-preserved : goal.loop-cpu-preserved
loop-cpu-preserved g c = record {
  wrote = section_more (processor_forms c.args.script.now.kinds) _ (processor_text c.args.script.now.kinds) c.args.script.now.cpu_lines 8 c.loop-cpu.cpu c.cpu_lines.result.now c.loop-cpu-test.true c.cpu_lines.ensures.lines c.loop-cpu.invariant.wrote c.in_ok-put_section.ensures.wrote;
  flushed = search rules;
}
