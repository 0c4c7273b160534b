use Rattle.stage_laws.proofs.Turns.{ticks_leave_others}
use Rattle.stage_laws.proofs.laws.ticks_leave_other_contexts.Goals as goal

pub returns : goal.returns
returns c = ticks_leave_others
