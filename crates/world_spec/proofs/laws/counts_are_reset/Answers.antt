use Rattle.world_spec.proofs.Accounts.{reset-stage, reset-kept}
use Rattle.world_spec.proofs.laws.counts_are_reset.Goals as goal

pub returns : goal.returns
returns c = record { stage = reset-stage; kept = reset-kept }
