-- The workers of a script, one number at a time from the last one down.
use Rattle.std.specs.Prelude.{◌≡◌, ℕ, suc, true, false, cond, List, [], ◌∷◌, ◌++◌, map, nat_lt, reverse}
use Rattle.std.proofs.{Common.{refl, sym, ap, ◌∙◌, append_assoc}, lemmas.List.{map-append, reverse-append, Elements.{filter-append}}}
use Rattle.perf_base.specs.{declared.acts.Actor.{Actor}, Scripts.{Scripted}}
use Rattle.stage_spec.specs.Numbers.{numbers_below}
use Rattle.perf_book.specs.Plans.{actor_at, count_of, with_lines, workers_below}

turn-at : Scripted → ℕ → Actor × ℕ
turn-at s place = (actor_at place, count_of s (actor_at place))

-- one turn, if it has lines, is the same in reverse
reverse-one : (turn : Actor × ℕ) → reverse (with_lines (turn ∷ [])) ≡ with_lines (turn ∷ [])
reverse-one turn = elim (nat_lt 0 turn.1) as (λ b. reverse (cond b (turn ∷ []) []) ≡ cond b (turn ∷ []) []) [ true ↦ refl | false ↦ refl ]

-- those below the next number
below-next : (s : Scripted) (n : ℕ) → workers_below s (suc n) ≡ workers_below s n ++ with_lines (turn-at s n ∷ [])
unfolding turn-at
below-next s n =
    ap with_lines (map-append (turn-at s) (numbers_below n) (n ∷ [])) ∙ filter-append (λ (turn : Actor × ℕ). nat_lt 0 turn.1) (map (turn-at s) (numbers_below n)) (turn-at s n ∷ [])

pub one-more : (s : Scripted) (n : ℕ) (turns all : List (Actor × ℕ)) (actor : Actor) (lines : ℕ) → actor ≡ actor_at n → lines ≡ count_of s actor
    → workers_below s (suc n) ++ reverse turns ≡ all → workers_below s n ++ reverse (turns ++ with_lines ((actor, lines) ∷ [])) ≡ all
unfolding turn-at
one-more s n turns all actor lines who count told =
    let turn : Path (Actor × ℕ) (actor, lines) (turn-at s n) = λ i. (who i, (count ∙ ap (count_of s) who) i) in
    let one : List (Actor × ℕ) = with_lines (turn-at s n ∷ []) in
    let reversed : reverse (turns ++ one) ≡ one ++ reverse turns = reverse-append turns one ∙ ap (λ (front : List (Actor × ℕ)). front ++ reverse turns) (reverse-one (turn-at s n)) in
    ap (λ (t : Actor × ℕ). workers_below s n ++ reverse (turns ++ with_lines (t ∷ []))) turn
    ∙ (ap (λ (back : List (Actor × ℕ)). workers_below s n ++ back) reversed
    ∙ (sym (append_assoc (workers_below s n) one (reverse turns))
    ∙ (ap (λ (front : List (Actor × ℕ)). front ++ reverse turns) (sym (below-next s n)) ∙ told)))
