use Rattle.std.proofs.Common.{rules}
use Rattle.shared_object.proofs.Counts.{may_compare_count}
use Rattle.shared_object.proofs.steps.compare_count.Goals as goal

pub load-requires : goal.load-requires
load-requires g c = (search rules, search rules, may_compare_count g.O.Sequential.after g.O.Sequential.legal _ _ _ _ c.requires.key c.requires.rests)
