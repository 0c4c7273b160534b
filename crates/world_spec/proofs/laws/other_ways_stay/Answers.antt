use Rattle.world_spec.proofs.WaysGone.{add-ways, go-ways, fold-ways}
use Rattle.world_spec.proofs.laws.other_ways_stay.Goals as goal

pub returns : goal.returns
returns c = record { come = add-ways; gone = go-ways; folded = fold-ways }
