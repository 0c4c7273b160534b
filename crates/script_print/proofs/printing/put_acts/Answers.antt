use Rattle.script_print.proofs.{Loops.{loop_exit}, Whole.{acts_each}}
use Rattle.script_print.proofs.printing.put_acts.Goals as goal

pub returns-in_err-put_act-clause-wrote : goal.returns-in_err-put_act-clause-wrote
returns-in_err-put_act-clause-wrote g c =
    loop_exit acts_each c.args.acts.now c.loop-act.act-index _ c.loop-act-test.true c.loop-act.invariant.wrote c.from_residual.ensures.0 c.in_err-put_act.ensures.wrote
