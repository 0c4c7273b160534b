use Rattle.std.{proofs.Common.{sym, map}, specs.Prelude.{decimal}}
use Rattle.script_spec.specs.{Forms.{mode_text, word_if, ip_text, hit_text}, Printing.{some_of, hits_of}}
use Rattle.script_print.proofs.Hits.{work_line}
use Rattle.script_print.proofs.cpu_lines.put_work.Goals as goal
use Rattle.perf_io.proofs.Wrote.{wrote_text}

pub returns-clause-wrote : goal.returns-clause-wrote
returns-clause-wrote g c =
    wrote_text (sym (work_line (decimal c.args.work.now.length) (mode_text c.args.work.now.mode) (word_if (some_of c.args.work.now.ip) ip_text) (map hit_text (hits_of c.args.script.now.kinds c.args.work.now.hits))))
    (rw (c.mode_name.ensures, c.hexadecimal_if.ensures) at c.put_hits_line.ensures.wrote)
