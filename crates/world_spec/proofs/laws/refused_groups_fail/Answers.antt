use Rattle.world_spec.proofs.Rescheduling.{fail-kept, fail-rescheduled, fail-stage}
use Rattle.world_spec.proofs.laws.refused_groups_fail.Goals as goal

pub returns : goal.returns
returns c = record { stage = fail-stage; rescheduled = fail-rescheduled; kept = fail-kept }
