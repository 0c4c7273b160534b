use Rattle.std.proofs.Common.{rules}
use Rattle.sched_rules.proofs.facts.may_go.Goals as goal

pub returns-in-Some-refused-clause-err : goal.returns-in-Some-refused-clause-err
returns-in-Some-refused-clause-err c = search rules

pub returns-in-Some-refused-clause-ok : goal.returns-in-Some-refused-clause-ok
returns-in-Some-refused-clause-ok c = search rules

pub returns-clause-err : goal.returns-clause-err
returns-clause-err c = search rules

pub returns-in-Some-clause-err : goal.returns-in-Some-clause-err
returns-in-Some-clause-err c = search rules
