use Rattle.std.proofs.Common.{rules}
use Rattle.ring_words.proofs.steps.meet_ends.Goals as goal

pub returns-clause-views : goal.returns-clause-views
returns-clause-views c = search rules
