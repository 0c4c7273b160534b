use Rattle.std.proofs.Common.{rules}
use Rattle.event_open.proofs.placing.check_place.Goals as goal

pub returns-then-names_no_task-clause-err : goal.returns-then-names_no_task-clause-err
returns-then-names_no_task-clause-err c = search rules
