use Rattle.stage_laws.proofs.Turns.{tick_turns}
use Rattle.stage_laws.proofs.laws.ticks_turn_waiting_contexts.Goals as goal

pub returns : goal.returns
returns c = tick_turns
