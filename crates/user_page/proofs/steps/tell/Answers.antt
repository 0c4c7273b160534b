use Rattle.std.proofs.Common.{rules, refl, sym, subst}
use Rattle.user_page.{specs.Views.{Holder, IsNote}, proofs.Parting.{may_note, may_inform}}
use Rattle.user_page.proofs.steps.tell.Goals as goal

pub split_seat-note-requires : goal.split_seat-note-requires
split_seat-note-requires c = (search rules, search rules, may_note _ _)

pub join_seat-requires : goal.join_seat-requires
join_seat-requires c =
    let P : Holder → Type 0 = λ m. IsNote m.0 in
    let note : IsNote c.split_seat-note.result.me.0 = subst P (sym c.split_seat-note.ensures.4) (refl, refl) in
    (search rules, search rules, search rules, search rules, may_inform _ _ _ _ c.requires.role note)
