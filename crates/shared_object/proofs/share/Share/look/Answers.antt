use Rattle.std.proofs.Common.{rules}
use Rattle.shared_object.proofs.share.Share.look.Goals as goal

pub returns-clause-count : goal.returns-clause-count
returns-clause-count c = search rules
