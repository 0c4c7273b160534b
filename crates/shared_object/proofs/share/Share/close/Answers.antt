use Rattle.std.proofs.Common.{rules}
use Rattle.shared_object.proofs.share.Share.close.Goals as goal

pub returns : goal.returns
returns c = search rules
