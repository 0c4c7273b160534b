use Rattle.event_times.proofs.Along.{stretch_law}
use Rattle.event_times.proofs.laws.times_are_stretches.Goals as goal

pub returns : goal.returns
returns c = stretch_law
