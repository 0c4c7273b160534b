use Rattle.std.proofs.Common.{ap, map}
use Rattle.script_spec.specs.Printing.{reader_form}
use Rattle.perf_io.proofs.Wrote.{wrote_then, wrote_exit, wrote_text}
use Rattle.script_print.specs.Words.{text, lines_text}
use Rattle.script_print.proofs.printing.put_lines.Goals as goal

pub returns-in_err-put_tools-clause-wrote : goal.returns-in_err-put_tools-clause-wrote
unfolding lines_text
returns-in_err-put_tools-clause-wrote g c =
    wrote_then c.in_ok-put_processors.ensures.wrote (wrote_exit (text (map reader_form c.args.script.now.readers)) c.from_residual-in_err-put_tools.ensures.0 c.in_err-put_tools.ensures.wrote)

pub returns-clause-wrote : goal.returns-clause-wrote
unfolding lines_text
returns-clause-wrote g c =
    let readers = wrote_text (ap (λ rs. text (map reader_form rs)) c.readers.ensures.readers) c.put_entries.ensures.wrote in
    wrote_then c.in_ok-put_processors.ensures.wrote (wrote_then c.in_ok-put_tools.ensures.wrote readers)
