use Rattle.std.proofs.Common.{rules, refl, sym, subst}
use Rattle.ring_words.{specs.Views.{Holder, IsNote}, proofs.Parting.{may_note_consumer, may_inform_producer}}
use Rattle.ring_words.proofs.steps.tell_producer.Goals as goal

pub split_seat-note-requires : goal.split_seat-note-requires
split_seat-note-requires c = (search rules, search rules, may_note_consumer _ _ _ c.requires.roles.1)

pub join_seat-requires : goal.join_seat-requires
join_seat-requires c =
    let P : Holder → Type 0 = λ m. IsNote m.0 in
    let note : IsNote c.split_seat-note.result.me.0 = subst P (sym c.split_seat-note.ensures.4) (refl, refl) in
    (search rules, search rules, search rules, search rules, may_inform_producer _ _ _ _ _ c.requires.roles.0 note)
