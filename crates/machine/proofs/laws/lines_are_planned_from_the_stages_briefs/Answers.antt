use Rattle.machine.proofs.PreparedBriefs.{prepared-briefs}
use Rattle.machine.proofs.laws.lines_are_planned_from_the_stages_briefs.Goals as goal

pub returns : goal.returns
returns c = prepared-briefs
