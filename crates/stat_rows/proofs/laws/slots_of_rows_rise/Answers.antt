use Rattle.stat_rows.proofs.Rising.{rising}
use Rattle.stat_rows.proofs.laws.slots_of_rows_rise.Goals as goal

pub returns : goal.returns
returns c = rising
