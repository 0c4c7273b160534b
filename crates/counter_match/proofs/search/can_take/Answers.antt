use Rattle.std.proofs.Common.{rules}
use Rattle.counter_match.proofs.search.can_take.Goals as goal

pub returns-clause-step : goal.returns-clause-step
returns-clause-step g c = search rules
