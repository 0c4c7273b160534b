use Rattle.std.proofs.Common.{rules}
use Rattle.shared_object.proofs.Turns.{may_take}
use Rattle.shared_object.proofs.steps.take_turn.Goals as goal

pub compare_exchange-requires : goal.compare_exchange-requires
compare_exchange-requires g c = (search rules, search rules, may_take _ _ _ _ _ _ c.requires.key c.requires.rests.0 c.requires.pass)
