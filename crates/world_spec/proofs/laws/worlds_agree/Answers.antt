use Rattle.world_spec.proofs.Agreement.{family-agrees, first-agrees, other-record, records-agree}
use Rattle.world_spec.proofs.laws.worlds_agree.Goals as goal

pub returns : goal.returns
returns c = record { first = first-agrees; records = records-agree; others = other-record; families = family-agrees }
