use Rattle.world_spec.proofs.Along.{share-is, given-is, along-is}
use Rattle.world_spec.proofs.laws.shares_go_along.Goals as goal

pub returns : goal.returns
returns c = record { share = share-is; given = given-is; along = along-is }
