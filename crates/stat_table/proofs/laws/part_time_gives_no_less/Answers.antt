use Rattle.stat_table.proofs.Quotients.{part_time_law}
use Rattle.stat_table.proofs.laws.part_time_gives_no_less.Goals as goal

pub returns : goal.returns
returns c = part_time_law
