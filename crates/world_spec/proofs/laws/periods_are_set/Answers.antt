use Rattle.world_spec.proofs.Accounts.{period-stage, period-kept}
use Rattle.world_spec.proofs.laws.periods_are_set.Goals as goal

pub returns : goal.returns
returns c = record { stage = period-stage; kept = period-kept }
