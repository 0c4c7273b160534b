use Rattle.stage_laws.proofs.ReachedSettled.{reached_settled}
use Rattle.stage_laws.proofs.laws.reached_stages_are_settled.Goals as goal

pub returns : goal.returns
returns c = reached_settled
