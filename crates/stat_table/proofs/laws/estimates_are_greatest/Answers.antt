use Rattle.stat_table.proofs.Quotients.{estimate_law}
use Rattle.stat_table.proofs.laws.estimates_are_greatest.Goals as goal

pub returns : goal.returns
returns c = estimate_law
