use Rattle.script_print.proofs.Loops.{loop_exit}
use Rattle.report.proofs.Entries.{slots_each}
use Rattle.report.proofs.said.put_slots.Goals as goal

pub returns-in_err-put_slot-clause-wrote : goal.returns-in_err-put_slot-clause-wrote
returns-in_err-put_slot-clause-wrote g c =
    loop_exit slots_each c.args.slots.now c.loop-slot.slot-index _ c.loop-slot-test.true c.loop-slot.invariant.wrote c.from_residual.ensures.0 c.in_err-put_slot.ensures.wrote
