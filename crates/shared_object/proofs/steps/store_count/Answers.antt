use Rattle.std.proofs.Common.{rules}
use Rattle.shared_object.proofs.Counts.{may_store_count}
use Rattle.shared_object.proofs.steps.store_count.Goals as goal

pub store-requires : goal.store-requires
store-requires g c = (
  search rules,
  search rules,
  may_store_count g.O.Sequential.after g.O.Sequential.legal _ _ _ _ c.requires.key c.requires.turn.0 c.requires.turn.1 _ _ c.requires.entry _ c.requires.count c.requires.room c.requires.legal,
)
