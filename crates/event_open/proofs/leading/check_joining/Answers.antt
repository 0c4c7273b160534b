use Rattle.std.proofs.Common.{rules}
use Rattle.event_open.proofs.leading.check_joining.Goals as goal

pub returns-then-asks_to_lead-clause-err : goal.returns-then-asks_to_lead-clause-err
returns-then-asks_to_lead-clause-err c = search rules
