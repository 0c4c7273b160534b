use Rattle.std.proofs.Common.{sym, rules}
use Rattle.perf_io.proofs.Wrote.{wrote_text}
use Rattle.script_print.proofs.Whole.{order_text}
use Rattle.script_print.proofs.printing.put_order.Goals as goal

pub returns-clause-wrote : goal.returns-clause-wrote
returns-clause-wrote g c = wrote_text (sym (order_text c.args.acts.now (search rules))) c.put_acts_line.ensures.wrote
