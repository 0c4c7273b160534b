use Rattle.std.proofs.Common.{rules}
use Rattle.shared_object.proofs.Parting.{may_note_down}
use Rattle.shared_object.proofs.steps.take_note.Goals as goal

pub split_seat-requires : goal.split_seat-requires
split_seat-requires g c = (search rules, search rules, may_note_down _ _ _ _ _ c.requires.key)
