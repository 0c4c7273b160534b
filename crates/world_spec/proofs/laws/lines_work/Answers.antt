use Rattle.world_spec.proofs.Metering.{work-stage, work-ways, work-kept, work-grows}
use Rattle.world_spec.proofs.laws.lines_work.Goals as goal

pub returns : goal.returns
returns c = record { stage = work-stage; ways = work-ways; kept = work-kept; grown = work-grows }
