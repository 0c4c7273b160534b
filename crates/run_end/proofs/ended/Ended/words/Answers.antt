use Rattle.std.proofs.Common.{rules}
use Rattle.run_end.proofs.ended.Ended.words.Goals as goal

pub returns : goal.returns
returns c = search rules
