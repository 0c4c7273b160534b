use Rattle.std.proofs.Common.{◌≡◌, [], ◌∷◌, List, rules, sym, ap, subst}
use Rattle.atomic_table.specs.Table.{opening}
use Rattle.user_page.{specs.{declared.view.View.{View}, Views.{Place, Holder, both_ends}, Rule.{Kept}}, proofs.Parting.{may_part, starts}}
use Rattle.user_page.proofs.page.Page.new.Goals as goal

pub new-requires-2 : goal.new-requires-2
new-requires-2 c =
    let x : Place = c.new.result in
    let are : c.in_ok-places.places.items ≡ x ∷ x ∷ x ∷ [] = search rules in
    subst (λ (l : List Place). Kept (opening (4 ∷ []) l both_ends)) (sym are) (starts x x x)

pub split_seat-other-requires : goal.split_seat-other-requires
split_seat-other-requires c =
    let start : c.in-Ok.seat.me.0 ≡ both_ends = ap (λ (m : Holder). m.0) c.in-Ok.ensures.ok.4 in
    (search rules, search rules, may_part _ _ (ap (λ (v : View). v.writes) start) (ap (λ (v : View). v.watches) start))

pub invariant_of-watcher : goal.invariant_of-watcher
invariant_of-watcher c = search rules
