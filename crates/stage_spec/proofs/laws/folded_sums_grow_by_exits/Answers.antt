use Rattle.stage_spec.proofs.Recurrence.{folded_of-push}
use Rattle.stage_spec.proofs.laws.folded_sums_grow_by_exits.Goals as goal

pub returns : goal.returns
returns c = folded_of-push
