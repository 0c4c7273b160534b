use Rattle.std.proofs.Common.{rules}
use Rattle.shared_object.proofs.Counts.{may_load_count}
use Rattle.shared_object.proofs.steps.load_count.Goals as goal

pub load-requires : goal.load-requires
load-requires g c = (search rules, search rules, may_load_count _ _ _ _ _ _ c.requires.key)
