use Rattle.stat_rows.proofs.There.{there}
use Rattle.stat_rows.proofs.laws.each_open_event_has_its_row.Goals as goal

pub returns : goal.returns
returns c = there
