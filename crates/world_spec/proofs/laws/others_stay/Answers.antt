use Rattle.world_spec.proofs.Staying.{add-stays, fold-stays, go-stays}
use Rattle.world_spec.proofs.laws.others_stay.Goals as goal

pub returns : goal.returns
returns c = record { come = add-stays; gone = go-stays; folded = fold-stays }
