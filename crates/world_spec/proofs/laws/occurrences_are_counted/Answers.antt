use Rattle.world_spec.proofs.Accounts.{hit-stage, hit-kept}
use Rattle.world_spec.proofs.laws.occurrences_are_counted.Goals as goal

pub returns : goal.returns
returns c = record { stage = hit-stage; kept = hit-kept }
