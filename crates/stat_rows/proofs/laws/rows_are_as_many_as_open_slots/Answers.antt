use Rattle.stat_rows.proofs.Rising.{counted}
use Rattle.stat_rows.proofs.laws.rows_are_as_many_as_open_slots.Goals as goal

pub returns : goal.returns
returns c = counted
