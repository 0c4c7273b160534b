use Rattle.counter_match.proofs.Counting.{tight_law}
use Rattle.counter_match.proofs.laws.tight_sets_lack_one.Goals as goal

pub returns : goal.returns
returns c = tight_law
