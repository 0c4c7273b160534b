use Rattle.std.proofs.Common.{rules}
use Rattle.shared_object.proofs.Parting.{may_part}
use Rattle.shared_object.proofs.steps.split.Goals as goal

pub split_seat-requires : goal.split_seat-requires
split_seat-requires g c = (search rules, search rules, may_part _ _ _ _ _ c.requires.key c.requires.pass.0 c.requires.pass.1)
