use Rattle.stage_laws.proofs.Turns.{turned_by_places}
use Rattle.stage_laws.proofs.laws.ticks_turn_by_places.Goals as goal

pub returns : goal.returns
returns c = turned_by_places
