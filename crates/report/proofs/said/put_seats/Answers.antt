use Rattle.script_print.proofs.Loops.{loop_exit}
use Rattle.report.proofs.Entries.{seats_each}
use Rattle.report.proofs.said.put_seats.Goals as goal

pub returns-in_err-put_seat-clause-wrote : goal.returns-in_err-put_seat-clause-wrote
returns-in_err-put_seat-clause-wrote g c =
    loop_exit seats_each c.args.seats.now c.loop-seat.seat-index _ c.loop-seat-test.true c.loop-seat.invariant.wrote c.from_residual.ensures.0 c.in_err-put_seat.ensures.wrote
