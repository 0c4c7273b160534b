-- What was seen of the looks that were published.
use Rattle.std.specs.Prelude.{◌≡◌, ℕ, ◌+◌, ◌-◌, List, [], ◌∷◌, ◌++◌, length, Contains, Some}
use Rattle.std.proofs.{Common.{arith, ap, get_or, refl, subst, sym, ◌∙◌, append-nil}, lemmas.List.{length-append, Elements.{Contains-append_left}}}
use Rattle.std.proofs.lemmas.Option.{none-some, same_Some, slice_get-get_or}
use mathlib.Core.List.{IsPrefix}
use Rattle.perf_base.specs.{declared.{acts.Act.{Act}, numbers.EventNo.{EventNo}}, Scripts.{Scripted}}
use Rattle.user_page.specs.{declared.look.Look.{Look}, Looks.{last_look}}
use Rattle.report_spec.specs.{Laws.{RingsLaw}, Published.{published_looks}}
use Rattle.ring_laws.specs.Growing.{AreLooks}
use Rattle.perf_book.{specs.Watching.{IsSeenOf}, proofs.Watching.{rings-add}}

no-more : (rest : List Look) → length rest ≡ 0 → rest ≡ []
no-more [] none = refl
no-more (x ∷ rest) none = absurd (omega (arith, none))

-- lists of which each begins the other are the same
pub same-prefix : (xs ys : List Look) → IsPrefix xs ys → IsPrefix ys xs → xs ≡ ys
same-prefix xs ys p q =
    let none : p.0 ≡ [] = no-more p.0 (omega (arith, length-append xs p.0, length-append ys q.0, ap length p.1, ap length q.1)) in
    sym (append-nil xs) ∙ (ap (λ r. xs ++ r) (sym none) ∙ p.1)

-- the last look is in the list
last-in : (looks : List Look) (x : Look) → last_look looks ≡ Some x → Contains looks x
last-in [] x e = absurd (none-some x e)
last-in (y ∷ looks) x e =
    let place : ℕ = length (y ∷ looks) - 1 in
    let there : last_look (y ∷ looks) ≡ Some (get_or (y ∷ looks) place x) = slice_get-get_or (y ∷ looks) place x (omega arith) in
    (place, omega arith, same_Some (get_or (y ∷ looks) place x) x (sym there ∙ e))

-- looks at rings behind a run publish nothing more
pub published-after : RingsLaw → (s after : Scripted) (order looks whole : List Act) (e f : EventNo) (published : List Look)
    → published ≡ published_looks s order e → e ≡ f → AreLooks 0 order looks → after ≡ s → whole ≡ order ++ looks → published ≡ published_looks after whole f
published-after add-none s after order looks whole e f published is event h same extended =
    is ∙ (ap (λ (x : EventNo). published_looks s order x) event
    ∙ (sym (rings-add add-none s order looks 0 order f h) ∙ λ i. published_looks (sym same i) (sym extended i) f))

-- so is one that a watcher saw
pub seen-in : (before published : List Look) (x : Look) → IsSeenOf before published x → Contains published x
seen-in before published x h = subst (λ (looks : List Look). Contains looks x) h.front.1 (Contains-append_left h.seen h.front.0 x (last-in h.seen x h.last))
