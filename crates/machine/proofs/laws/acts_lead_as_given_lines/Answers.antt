use Rattle.machine.proofs.Led.{led-by-acts}
use Rattle.machine.proofs.laws.acts_lead_as_given_lines.Goals as goal

pub returns : goal.returns
returns c = led-by-acts
