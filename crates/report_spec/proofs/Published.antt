-- How the list of published looks grows, act by act, and which looks it has.
use Rattle.std.specs.Prelude.{◌≡◌, ℕ, ◌+◌, ◌-◌, ◌<◌, ◌≤◌, ◌⊎◌, Bool, true, false, List, [], ◌∷◌, ◌++◌, length, All, AllPairs, Contains, IfSome, Some}
use Rattle.std.proofs.{Common.{arith, refl, sym, ap, subst, ◌∙◌, inl, inr, get_or, append_assoc, append-nil}, lemmas.List.{length-append}}
use Rattle.std.proofs.lemmas.List.Elements.{All-cons, Contains-append_left, Contains-append_right, Contains-append_cases, Contains-push, Contains-push_cases}
use Rattle.std.proofs.lemmas.{List.Kept.{AllPairs-cons}, Option.{slice_get-get_or}, Bool.{false≢true}}
use Rattle.perf_base.proofs.FlatMaps.{flat_map_after-append}
use Rattle.perf_base.specs.{declared.{numbers.EventNo.{EventNo}, acts.Act.{Act}}, Scripts.{Scripted}}
use Rattle.perf_base.specs.declared.acts.Act.TheVariants as act
use Rattle.user_page.specs.{declared.look.Look.{Look}, Looks.{zero_look, last_look}}
use Rattle.report_spec.specs.Published.{look_after, publishes, looks_if, looks_by, looks_from, published_looks}
use Rattle.report_spec.specs.Laws.{NoActsLaw, OneMoreLaw, RingsLaw, FrontsLaw, RisesLaw, FollowsLaw, IsPublished, EachLookLaw}

looks_from-append : (s : Scripted) (before front rest : List Act) (e : EventNo)
    → looks_from s before (front ++ rest) e ≡ looks_from s before front e ++ looks_from s (before ++ front) rest e
unfolding looks_from
looks_from-append s before front rest e = flat_map_after-append (λ done a. looks_by s done a e) before front rest

pub no-acts : NoActsLaw
unfolding published_looks looks_from
no-acts s e = refl

pub one-more : OneMoreLaw
unfolding published_looks looks_from
one-more s order a e =
    let added : looks_from s [] (order ++ a ∷ []) e ≡ looks_from s [] order e ++ (looks_by s order a e ++ []) = looks_from-append s [] order (a ∷ []) e in
    ap (λ looks. zero_look ∷ looks) (added ∙ ap (λ looks. looks_from s [] order e ++ looks) (append-nil (looks_by s order a e)))

pub rings-add-none : RingsLaw
rings-add-none s order ring place e = one-more s order (act.Seen ring place) e ∙ append-nil (published_looks s order e)

pub fronts-begin : FrontsLaw
unfolding published_looks
fronts-begin s front rest e = (looks_from s front rest e, ap (λ looks. zero_look ∷ looks) (sym (looks_from-append s [] front rest e)))

-- a look of more acts than a first number and of no more than a last one
abbrev IsWithin : (first last : ℕ) → Look → Type 0
IsWithin first last look = (first < look.at) × (look.at ≤ last)

abbrev Rises : List Look → Type 0
Rises looks = AllPairs (λ a b. a.at < b.at) looks

-- one look more before others, or none
within-more : (b : Bool) (first last : ℕ) (look : Look) (rest : List Look) → look.at ≡ first + 1 → first + 1 ≤ last → All (IsWithin (first + 1) last) rest
    → All (IsWithin first last) (looks_if b look ++ rest)
within-more false first last look rest is room h = λ k d inside. (omega (arith, (h k d inside).0), (h k d inside).1)
within-more true first last look rest is room h = grind (arith, All-cons)

rises-more : (b : Bool) (first last : ℕ) (look : Look) (rest : List Look) → look.at ≡ first + 1 → All (IsWithin (first + 1) last) rest → Rises rest
    → Rises (looks_if b look ++ rest)
rises-more false first last look rest is h rises = rises
rises-more true first last look rest is h rises =
    let above : All (λ b. look.at < b.at) rest = λ k d inside. omega (arith, is, (h k d inside).0) in
    AllPairs-cons (λ a b. a.at < b.at) look rest above rises

within-from : (s : Scripted) (before acts : List Act) (e : EventNo) (last : ℕ) → length before + length acts ≤ last
    → All (IsWithin (length before) last) (looks_from s before acts e)
unfolding looks_from
within-from s before [] e last room = λ k d inside. absurd (omega (arith, inside))
within-from s before (a ∷ acts) e last room =
    let long : length (before ++ a ∷ []) ≡ length before + 1 = omega (arith, length-append before (a ∷ [])) in
    let rest : All (IsWithin (length (before ++ a ∷ [])) last) (looks_from s (before ++ a ∷ []) acts e) = within-from s (before ++ a ∷ []) acts e last (omega (arith, long, room)) in
    grind (arith, within-more, long, rest)

rises-from : (s : Scripted) (before acts : List Act) (e : EventNo) → Rises (looks_from s before acts e)
unfolding looks_from
rises-from s before [] e = λ i j d earlier inside. absurd (omega (arith, inside))
rises-from s before (a ∷ acts) e =
    let long : length (before ++ a ∷ []) ≡ length before + 1 = omega (arith, length-append before (a ∷ [])) in
    let last : ℕ = length (before ++ a ∷ []) + length acts in
    let rest : All (IsWithin (length (before ++ a ∷ [])) last) (looks_from s (before ++ a ∷ []) acts e) = within-from s (before ++ a ∷ []) acts e last (omega arith) in
    grind (arith, rises-more, last, long, rest, rises-from s (before ++ a ∷ []) acts e)

pub rises : RisesLaw
unfolding published_looks
rises s order e =
    let each : All (IsWithin 0 (length order)) (looks_from s [] order e) = within-from s [] order e (length order) (omega arith) in
    let above : All (λ b. zero_look.at < b.at) (looks_from s [] order e) = λ k d inside. (each k d inside).0 in
    let strictly : Rises (zero_look ∷ looks_from s [] order e) = AllPairs-cons (λ a b. a.at < b.at) zero_look (looks_from s [] order e) above (rises-from s [] order e) in
    (record { some = omega arith; rises = λ i j d earlier inside. omega (arith, strictly i j d earlier inside) }, strictly)

-- what holds of each look of a list that has one holds of its last
last-one : (looks : List Look) (n m : ℕ) → 0 < length looks → n ≤ m → All (λ look. look.at ≤ n) looks → IfSome (last_look looks) (λ last. last.at ≤ m)
last-one looks n m some more h =
    let place : ℕ = length looks - 1 in
    let there : last_look looks ≡ Some (get_or looks place zero_look) = slice_get-get_or looks place zero_look (omega (arith, some)) in
    let low : (get_or looks place zero_look).at ≤ m = omega (arith, more, h place zero_look (omega (arith, some))) in
    subst (λ o. IfSome o (λ last. last.at ≤ m)) (sym there) low

pub follows : FollowsLaw
unfolding published_looks
follows s order a e =
    let each : All (IsWithin 0 (length order)) (looks_from s [] order e) = within-from s [] order e (length order) (omega arith) in
    let few : All (λ look. look.at ≤ length order) (zero_look ∷ looks_from s [] order e) = All-cons (λ look. look.at ≤ length order) zero_look (looks_from s [] order e) (omega arith) (λ k d inside. (each k d inside).1) in
    (few, last-one (zero_look ∷ looks_from s [] order e) (length order) (length (order ++ a ∷ [])) (omega arith) (omega (arith, length-append order (a ∷ []))) few)

-- a look that an act publishes is the one after it
if-there : (b : Bool) (look x : Look) → Contains (looks_if b look) x → (b ≡ true) × (x ≡ look)
if-there false look x h = absurd (omega (arith, h.1))
if-there true look x h = grind (arith, Contains-push_cases)

-- so each look of some acts is by one of them
here-by : (s : Scripted) (order before acts : List Act) (a : Act) (e : EventNo) (look : Look) → order ≡ before ++ a ∷ acts → Contains (looks_by s before a e) look → IsPublished s order e look
here-by s order before acts a e look is h = grind (arith, if-there)

by-one : (s : Scripted) (order before acts : List Act) (e : EventNo) (look : Look) → order ≡ before ++ acts → Contains (looks_from s before acts e) look → IsPublished s order e look
unfolding looks_from
by-one s order before [] e look is h = absurd (omega (arith, h.1))
by-one s order before (a ∷ acts) e look is h = elim (Contains-append_cases (looks_by s before a e) (looks_from s (before ++ a ∷ []) acts e) look h) [
  | inl now ↦ here-by s order before acts a e look is now
  | inr later ↦ by-one s order (before ++ a ∷ []) acts e look (is ∙ sym (append_assoc before (a ∷ []) acts)) later
]

there-if : (b : Bool) (look : Look) → b ≡ true → Contains (looks_if b look) look
there-if true look is = Contains-push [] look
there-if false look is = absurd (false≢true is)

among : (s : Scripted) (before after : List Act) (a : Act) (e : EventNo) → publishes s before a e ≡ true → Contains (looks_from s [] (before ++ a ∷ after) e) (look_after s (before ++ a ∷ []) e)
unfolding looks_from
among s before after a e is =
    let look : Look = look_after s (before ++ a ∷ []) e in
    let rest : List Look = looks_from s (before ++ a ∷ []) after e in
    let here : Contains (looks_by s before a e ++ rest) look = Contains-append_left (looks_by s before a e) rest look (there-if (publishes s before a e) look is) in
    subst (λ looks. Contains looks look) (sym (looks_from-append s [] before (a ∷ after) e)) (Contains-append_right (looks_from s [] before e) (looks_by s before a e ++ rest) look here)

has-each : (s : Scripted) (order : List Act) (e : EventNo) (look : Look) → Contains (published_looks s order e) look → (look ≡ zero_look) ⊎ IsPublished s order e look
unfolding published_looks
has-each s order e look h = elim (Contains-append_cases (zero_look ∷ []) (looks_from s [] order e) look h) [
  | inl first ↦ inl (if-there true zero_look look first).1
  | inr later ↦ inr (by-one s order [] order e look refl later)
]

is-among : (s : Scripted) (order : List Act) (e : EventNo) (look : Look) → (look ≡ zero_look) ⊎ IsPublished s order e look → Contains (published_looks s order e) look
unfolding published_looks
is-among s order e look (inl is) =
    let first : Contains (zero_look ∷ looks_from s [] order e) zero_look = Contains-append_left (zero_look ∷ []) (looks_from s [] order e) zero_look (Contains-push [] zero_look) in
    subst (λ x. Contains (zero_look ∷ looks_from s [] order e) x) (sym is) first
is-among s order e look (inr p) =
    let its : Look = look_after s (p.before ++ p.a ∷ []) e in
    let later : Contains (looks_from s [] order e) its = subst (λ acts. Contains (looks_from s [] acts e) its) (sym p.order_is) (among s p.before p.after p.a e p.published) in
    subst (λ x. Contains (zero_look ∷ looks_from s [] order e) x) (sym p.look_is) (Contains-append_right (zero_look ∷ []) (looks_from s [] order e) its later)

pub each-look : EachLookLaw
each-look s order e look = (has-each s order e look, is-among s order e look)
