use Rattle.std.proofs.Common.{◌∷◌, decimal}
use Rattle.perf_io.proofs.Wrote.{wrote_then, wrote_exit, wrote_text}
use Rattle.report.proofs.Entries.{seat-parts}
use Rattle.report.proofs.said.put_seat.Goals as goal

pub returns-in_err-put_slot-clause-wrote : goal.returns-in_err-put_slot-clause-wrote
returns-in_err-put_slot-clause-wrote g c = wrote_text (seat-parts c.args.seat) (wrote_exit (61 ∷ decimal c.args.seat.1) c.from_residual.ensures.0 c.in_err-put_slot.ensures.wrote)

pub returns-clause-wrote : goal.returns-clause-wrote
returns-clause-wrote g c = wrote_text (seat-parts c.args.seat) (wrote_then c.in_ok-put_slot.ensures.wrote c.put_counter.ensures.wrote)
