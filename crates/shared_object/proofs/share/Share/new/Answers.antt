use Rattle.std.proofs.Common.{rules}
use Rattle.shared_object.proofs.share.Share.new.Goals as goal

pub returns-in-Ok-clause-pass : goal.returns-in-Ok-clause-pass
returns-in-Ok-clause-pass c = search rules
