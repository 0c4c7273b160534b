use Rattle.world_spec.proofs.Standing.{left-untouched, seats-answer}
use Rattle.world_spec.proofs.laws.processors_stay_rescheduled.Goals as goal

pub returns : goal.returns
returns c = record { seats = seats-answer; stay = left-untouched }
