use Rattle.std.proofs.Common.{rules, ap, sym, ◌∙◌}
use Rattle.shared_object.specs.Views.{note_of}
use Rattle.shared_object.proofs.Parting.{may_note}
use Rattle.shared_object.proofs.steps.keep_note.Goals as goal

pub join_seat-requires : goal.join_seat-requires
join_seat-requires g c = (
  search rules,
  search rules,
  search rules,
  search rules,
  may_note _ _ _ _ _ c.requires.key.0 c.requires.rests _ _ (ap (λ m. m.0.key) c.take_note-note.ensures.note ∙ c.requires.key.1)
      (ap (λ m. m.0) c.take_note-note.ensures.note ∙ sym (ap (λ m. note_of m.0) c.take_note-note.ensures.note)),
)
