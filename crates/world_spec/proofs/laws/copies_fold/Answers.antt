use Rattle.world_spec.proofs.Folding.{fold-kept, fold-stage, fold-sums}
use Rattle.world_spec.proofs.laws.copies_fold.Goals as goal

pub returns : goal.returns
returns c = record { stage = fold-stage; kept = fold-kept; sums = fold-sums }
