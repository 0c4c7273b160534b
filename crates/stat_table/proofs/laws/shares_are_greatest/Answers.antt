use Rattle.stat_table.proofs.Quotients.{share_law}
use Rattle.stat_table.proofs.laws.shares_are_greatest.Goals as goal

pub returns : goal.returns
returns c = share_law
