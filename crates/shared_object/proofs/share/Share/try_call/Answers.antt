use Rattle.std.proofs.Common.{rules}
use Rattle.shared_object.proofs.share.Share.try_call.Goals as goal

pub returns-then-turn-ne0-clause-answer : goal.returns-then-turn-ne0-clause-answer
returns-then-turn-ne0-clause-answer c = search rules

pub returns-clause-answer : goal.returns-clause-answer
returns-clause-answer c = search rules
