use Rattle.work_maker.proofs.Sound.{line_law}
use Rattle.work_maker.proofs.laws.made_lines.Goals as goal

pub returns : goal.returns
returns c = line_law
