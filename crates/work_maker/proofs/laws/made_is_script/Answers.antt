use Rattle.work_maker.proofs.Sound.{script_law}
use Rattle.work_maker.proofs.laws.made_is_script.Goals as goal

pub returns : goal.returns
returns c = script_law
