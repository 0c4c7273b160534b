use Rattle.std.proofs.Common.{rules}
use Rattle.shared_object.proofs.Turns.{may_store_turn}
use Rattle.shared_object.proofs.steps.store_turn.Goals as goal

pub store-requires : goal.store-requires
store-requires g c = (
  search rules,
  search rules,
  may_store_turn g.O.Sequential.after g.O.Sequential.legal _ _ _ _ c.requires.key c.requires.turn c.requires.value.0 c.requires.value.1 c.requires.value.2,
)
