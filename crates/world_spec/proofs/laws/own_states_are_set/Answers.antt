use Rattle.world_spec.proofs.Keeping.{own-stage, own-kept}
use Rattle.world_spec.proofs.laws.own_states_are_set.Goals as goal

pub returns : goal.returns
returns c = record { stage = own-stage; kept = own-kept }
