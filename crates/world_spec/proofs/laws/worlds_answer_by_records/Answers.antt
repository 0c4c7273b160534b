use Rattle.world_spec.proofs.Asking.{answers-by}
use Rattle.world_spec.proofs.laws.worlds_answer_by_records.Goals as goal

pub returns : goal.returns
returns c = answers-by
