use Rattle.std.proofs.Common.{rules}
use Rattle.event_open.proofs.checking.check_event.Goals as goal

pub returns-then-slot_used-clause-err : goal.returns-then-slot_used-clause-err
returns-then-slot_used-clause-err c = search rules
