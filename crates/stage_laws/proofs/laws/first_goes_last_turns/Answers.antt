use Rattle.stage_laws.proofs.Turns.{first_goes_last_rotates}
use Rattle.stage_laws.proofs.laws.first_goes_last_turns.Goals as goal

pub returns : goal.returns
returns c = first_goes_last_rotates
