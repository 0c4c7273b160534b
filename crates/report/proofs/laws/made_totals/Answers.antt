use Rattle.work_maker.proofs.Sound.{line_law}
use Rattle.report.proofs.laws.made_totals.Goals as goal

pub returns : goal.returns
returns c n answers rings = line_law n
