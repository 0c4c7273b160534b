use Rattle.stage_spec.proofs.Recurrence.{sums_of-push}
use Rattle.stage_spec.proofs.laws.sums_grow_by_shares.Goals as goal

pub returns : goal.returns
returns c = sums_of-push
