use Rattle.std.proofs.Common.{rules}
use Rattle.shared_object.proofs.kept.make_call.Goals as goal

pub returns-clause-calls : goal.returns-clause-calls
returns-clause-calls c = search rules
