-- Settling a pass: the groups that stay are on as before, and the others are no longer eligible.
use Rattle.std.specs.Prelude.{◌≡◌, ℕ, Bool, true, false, not, List, [], ◌∷◌, ◌++◌, map, filter, flat_map, Option, Some, None}
use Rattle.std.proofs.{Common.{refl, sym, ap, ◌∙◌, inl, inr, append-nil}, lemmas.{Bool.{cases_Bool, false≢true}, List.{map-append}}}
use Rattle.std.proofs.lemmas.List.Elements.{filter-append}
use Rattle.perf_base.specs.declared.{numbers.{CpuNo.{CpuNo}, EventNo.{EventNo}}, standing.Standing.{Standing}}
use Rattle.perf_base.specs.Standings.{stands_on, stands_refused}
use Rattle.perf_base.specs.declared.standing.Cause.TheVariants as cause
use Rattle.perf_base.specs.declared.standing.Standing.TheVariants as standing
use Rattle.stage_spec.specs.{Hardware.{Hardware}, Stage.{Group}, Effective.{is_wholly_software, is_exclusive_group, counted_members}}
use Rattle.stage_spec.specs.{Rules.{ruling_of}, Fits.{fits}, Tight.{masks_of, tight_set, shortest_unfit}}
use Rattle.stage_spec.specs.Verdict.{Judged, is_eligible, groups_on, first_named, first_refused, with_masks, by_counters, by_ruling, judge, judge_pass}
use Rattle.stage_spec.specs.Settle.{failed, settle_pass}

abbrev pub judged : Group → Standing → Judged
judged g v = record { group = g; standing = v }

-- those that are on
abbrev pub kept : List Judged → List Judged
kept js = filter (λ j. stands_on j.standing) js

filter-again : {X : Type 0} (p : X → Bool) (xs : List X) → filter p (filter p xs) ≡ filter p xs
filter-again p [] = refl
filter-again p (x ∷ xs) = elim (cases_Bool (p x)) [
  | inl e ↦ rw (e, e) (ap (λ ys. x ∷ ys) (filter-again p xs))
  | inr e ↦ rw e (filter-again p xs)
]

pub groups_on-append : (xs ys : List Judged) → groups_on (xs ++ ys) ≡ groups_on xs ++ groups_on ys
groups_on-append xs ys = rw (filter-append, map-append) refl

pub groups_on-kept : (xs : List Judged) → groups_on (kept xs) ≡ groups_on xs
groups_on-kept xs = ap (map (λ j. j.group)) (filter-again (λ j. stands_on j.standing) xs)

-- none of those that are on was refused
none_refused-step : (g : Group) (v : Standing) (xs : List Judged) → first_refused (kept xs) ≡ None → first_refused (kept (judged g v ∷ xs)) ≡ None
none_refused-step g standing.Out xs h = h
none_refused-step g standing.On xs h = h
none_refused-step g (standing.Refused c) xs h = h

pub none_refused : (xs : List Judged) → first_refused (kept xs) ≡ None
none_refused [] = refl
none_refused (x ∷ xs) = none_refused-step x.group x.standing xs (none_refused xs)

-- what a verdict goes by
abbrev judge_by : (software exclusive : Bool) (exclusive_on first_on refused : Option EventNo) → List (EventNo × ℕ) → Standing
judge_by software exclusive exclusive_on first_on refused events = by_ruling (ruling_of software exclusive exclusive_on first_on refused) events

judge-is : (hw : Hardware) (before within : List Judged) (g : Group) → judge hw before within g
    ≡ judge_by (is_wholly_software g) (is_exclusive_group g) (first_named is_exclusive_group (groups_on (before ++ within)))
    (first_named (λ h. not (is_wholly_software h)) (groups_on (before ++ within))) (first_refused within)
    (with_masks hw (flat_map counted_members (groups_on (before ++ within)) ++ counted_members g))
unfolding judge
judge-is hw before within g = refl

on_alone : (v : Standing) → stands_on v ≡ true → v ≡ standing.On
on_alone standing.Out h = absurd (false≢true h)
on_alone standing.On h = refl
on_alone (standing.Refused c) h = absurd (false≢true h)

-- a group that goes on does so too where none was refused before it
goes_on : (software exclusive : Bool) (exclusive_on first_on refused : Option EventNo) (events : List (EventNo × ℕ))
    → stands_on (judge_by software exclusive exclusive_on first_on refused events) ≡ true
    → judge_by software exclusive exclusive_on first_on None events ≡ standing.On
goes_on true x e f r events h = refl
goes_on false x (Some e) f r events h = absurd (false≢true h)
goes_on false true None (Some f) r events h = absurd (false≢true h)
goes_on false true None None (Some r) events h = absurd (false≢true h)
goes_on false true None None None events h = on_alone (by_counters events) h
goes_on false false None f (Some r) events h = absurd (false≢true h)
goes_on false false None f None events h = on_alone (by_counters events) h

abbrev slots : List (EventNo × ℕ) → List EventNo
slots events = map (λ event. event.0) events

counters_decide : (fit : Bool) (c : List EventNo) → stands_on (elim fit as (λ b. Standing) [ true ↦ standing.On | false ↦ standing.Refused (cause.Hall c) ]) ≡ false
    → stands_refused (elim fit as (λ b. Standing) [ true ↦ standing.On | false ↦ standing.Refused (cause.Hall c) ]) ≡ true
counters_decide true c h = absurd (false≢true (sym h))
counters_decide false c h = refl

-- a group that does not go on is refused
is_refused : (software exclusive : Bool) (exclusive_on first_on refused : Option EventNo) (events : List (EventNo × ℕ))
    → stands_on (judge_by software exclusive exclusive_on first_on refused events) ≡ false
    → stands_refused (judge_by software exclusive exclusive_on first_on refused events) ≡ true
is_refused true x e f r events h = absurd (false≢true (sym h))
is_refused false x (Some e) f r events h = refl
is_refused false true None (Some f) r events h = refl
is_refused false true None None (Some r) events h = refl
is_refused false true None None None events h = counters_decide (fits (masks_of events)) (slots (tight_set (shortest_unfit events))) h
is_refused false false None f (Some r) events h = refl
is_refused false false None f None events h = counters_decide (fits (masks_of events)) (slots (tight_set (shortest_unfit events))) h

-- the groups that are on, whatever was refused, give the same lists
same_on : (before others within : List Judged) → groups_on before ≡ groups_on others → groups_on (others ++ kept within) ≡ groups_on (before ++ within)
same_on before others within h =
    groups_on-append others (kept within)
    ∙ (ap (λ gs. groups_on others ++ gs) (groups_on-kept within) ∙ (ap (λ gs. gs ++ groups_on within) (sym h) ∙ sym (groups_on-append before within)))

-- a group that is on is on also where the refused ones are not there
judge-kept : (hw : Hardware) (before others within : List Judged) (g : Group) → groups_on before ≡ groups_on others
    → stands_on (judge hw before within g) ≡ true → judge hw others (kept within) g ≡ standing.On
judge-kept hw before others within g h on =
    let gs : List Group = groups_on (before ++ within) in
    let e : Option EventNo = first_named is_exclusive_group gs in
    let f : Option EventNo = first_named (λ h. not (is_wholly_software h)) gs in
    let events : List (EventNo × ℕ) = with_masks hw (flat_map counted_members gs ++ counted_members g) in
    let was_on : stands_on (judge_by (is_wholly_software g) (is_exclusive_group g) e f (first_refused within) events) ≡ true = ap stands_on (sym (judge-is hw before within g)) ∙ on in
    judge-is hw others (kept within) g
    ∙ (rw (same_on before others within h, none_refused within) (goes_on (is_wholly_software g) (is_exclusive_group g) e f (first_refused within) events was_on))

judge-same : (hw : Hardware) (before others within : List Judged) (g : Group) → groups_on before ≡ groups_on others → judge hw others within g ≡ judge hw before within g
judge-same hw before others within g h =
    let same : groups_on (others ++ within) ≡ groups_on (before ++ within) =
    groups_on-append others within ∙ (ap (λ gs. gs ++ groups_on within) (sym h) ∙ sym (groups_on-append before within)) in
    judge-is hw others within g ∙ (rw same (sym (judge-is hw before within g)))

refused_if_not_on : (hw : Hardware) (before within : List Judged) (g : Group) → stands_on (judge hw before within g) ≡ false → stands_refused (judge hw before within g) ≡ true
refused_if_not_on hw before within g h =
    let gs : List Group = groups_on (before ++ within) in
    rw (judge-is hw before within g) (is_refused (is_wholly_software g) (is_exclusive_group g) (first_named is_exclusive_group gs)
    (first_named (λ h. not (is_wholly_software h)) gs) (first_refused within) (with_masks hw (flat_map counted_members gs ++ counted_members g))
    (ap stands_on (sym (judge-is hw before within g)) ∙ h))

-- the groups of a pass that go on
unfoldable pub going : Hardware → (before within : List Judged) → List Group → List Group
going hw before within [] = []
going hw before within (g ∷ groups) = elim (stands_on (judge hw before within g)) [
  | true ↦ g ∷ going hw before (within ++ judged g (judge hw before within g) ∷ []) groups
  | false ↦ going hw before (within ++ judged g (judge hw before within g) ∷ []) groups
]

-- one of two lists of groups
abbrev pub either : Bool → List Group → List Group → List Group
either b here there = elim b [ true ↦ here | false ↦ there ]

going-on : (hw : Hardware) (before within : List Judged) (g : Group) (groups : List Group) → stands_on (judge hw before within g) ≡ true
    → going hw before within (g ∷ groups) ≡ g ∷ going hw before (within ++ judged g (judge hw before within g) ∷ []) groups
unfolding going
going-on hw before within g groups e =
    let rest : List Group = going hw before (within ++ judged g (judge hw before within g) ∷ []) groups in
    ap (λ b. either b (g ∷ rest) rest) e

going-off : (hw : Hardware) (before within : List Judged) (g : Group) (groups : List Group) → stands_on (judge hw before within g) ≡ false
    → going hw before within (g ∷ groups) ≡ going hw before (within ++ judged g (judge hw before within g) ∷ []) groups
unfolding going
going-off hw before within g groups e =
    let rest : List Group = going hw before (within ++ judged g (judge hw before within g) ∷ []) groups in
    ap (λ b. either b (g ∷ rest) rest) e

pub settle_pass-here : (hw : Hardware) (cpu : CpuNo) (before within : List Judged) (g : Group) (groups : List Group) → is_eligible hw cpu g ≡ true
    → settle_pass hw cpu before within (g ∷ groups)
    ≡ failed (judge hw before within g) g ∷ settle_pass hw cpu before (within ++ judged g (judge hw before within g) ∷ []) groups
unfolding settle_pass
settle_pass-here hw cpu before within g groups e =
    ap (λ b. either b (failed (judge hw before within g) g ∷ settle_pass hw cpu before (within ++ judged g (judge hw before within g) ∷ []) groups)
    (g ∷ settle_pass hw cpu before within groups)) e

pub settle_pass-away : (hw : Hardware) (cpu : CpuNo) (before within : List Judged) (g : Group) (groups : List Group) → is_eligible hw cpu g ≡ false
    → settle_pass hw cpu before within (g ∷ groups) ≡ g ∷ settle_pass hw cpu before within groups
unfolding settle_pass
settle_pass-away hw cpu before within g groups e =
    ap (λ b. either b (failed (judge hw before within g) g ∷ settle_pass hw cpu before (within ++ judged g (judge hw before within g) ∷ []) groups)
    (g ∷ settle_pass hw cpu before within groups)) e

pub filter-yes : {X : Type 0} (p : X → Bool) (x : X) (xs : List X) → p x ≡ true → filter p (x ∷ xs) ≡ x ∷ filter p xs
filter-yes p x xs e = rw e refl

pub filter-no : {X : Type 0} (p : X → Bool) (x : X) (xs : List X) → p x ≡ false → filter p (x ∷ xs) ≡ filter p xs
filter-no p x xs e = rw e refl

kept-on : (within : List Judged) (g : Group) (v : Standing) → stands_on v ≡ true → kept within ++ judged g standing.On ∷ [] ≡ kept (within ++ judged g v ∷ [])
kept-on within g v h = rw (filter-append, on_alone v h) refl

kept-off : (within : List Judged) (g : Group) (v : Standing) → stands_on v ≡ false → kept within ≡ kept (within ++ judged g v ∷ [])
kept-off within g v h = rw (filter-append, h) (sym (append-nil (kept within)))

-- judged without those that were refused, a pass has the same groups on
pub judge_pass-kept : (hw : Hardware) (before others within : List Judged) (groups : List Group) → groups_on before ≡ groups_on others
    → judge_pass hw others (kept within) (going hw before within groups) ≡ kept (judge_pass hw before within groups)
unfolding judge_pass going
judge_pass-kept hw before others within [] h = refl
judge_pass-kept hw before others within (g ∷ groups) h =
    let v : Standing = judge hw before within g in
    let left : List Group = going hw before (within ++ judged g v ∷ []) groups in
    let rest : judge_pass hw others (kept (within ++ judged g v ∷ [])) (going hw before (within ++ judged g v ∷ []) groups) ≡ kept (judge_pass hw before (within ++ judged g v ∷ []) groups) =
    judge_pass-kept hw before others (within ++ judged g v ∷ []) groups h in
    elim (cases_Bool (stands_on v)) [
      | inl e ↦ rw (going-on hw before within g groups e)
          (ap (λ u. judge_pass hw others (kept within ++ judged g u ∷ []) left) (judge-kept hw before others within g h e)
          ∙ (ap (λ js. judge_pass hw others js left) (kept-on within g v e) ∙ rest))
      | inr e ↦ rw (going-off hw before within g groups e, kept-off within g v e) rest
    ]

pub judge_pass-same : (hw : Hardware) (before others within : List Judged) (groups : List Group) → groups_on before ≡ groups_on others
    → judge_pass hw others within groups ≡ judge_pass hw before within groups
unfolding judge_pass
judge_pass-same hw before others within [] h = refl
judge_pass-same hw before others within (g ∷ groups) h = ap (λ v. judge_pass hw others (within ++ judged g v ∷ []) groups) (judge-same hw before others within g h)
    ∙ judge_pass-same hw before others (within ++ judged g (judge hw before within g) ∷ []) groups h

-- a group in error is not eligible
failed_stays : (hw : Hardware) (cpu : CpuNo) (v : Standing) (g : Group) → stands_refused v ≡ true → is_eligible hw cpu (failed v g) ≡ false
failed_stays hw cpu standing.Out g h = absurd (false≢true h)
failed_stays hw cpu standing.On g h = absurd (false≢true h)
failed_stays hw cpu (standing.Refused c) g h = refl

failed-on : (v : Standing) (g : Group) → stands_on v ≡ true → failed v g ≡ g
failed-on v g e = rw (on_alone v e) refl

-- what is eligible after settling are the groups that go on
pub eligible-settled : (hw : Hardware) (cpu : CpuNo) (before within : List Judged) (groups : List Group)
    → filter (is_eligible hw cpu) (settle_pass hw cpu before within groups) ≡ going hw before within (filter (is_eligible hw cpu) groups)
unfolding settle_pass going
eligible-settled hw cpu before within [] = refl
eligible-settled hw cpu before within (g ∷ groups) =
    let v : Standing = judge hw before within g in
    let test : Group → Bool = is_eligible hw cpu in
    let more : List Judged = within ++ judged g v ∷ [] in
    let rest : filter test (settle_pass hw cpu before more groups) ≡ going hw before more (filter test groups) = eligible-settled hw cpu before more groups in
    elim (cases_Bool (test g)) [
      | inr away ↦ rw (settle_pass-away hw cpu before within g groups away, filter-no test g groups away)
          (filter-no test g (settle_pass hw cpu before within groups) away ∙ eligible-settled hw cpu before within groups)
      | inl here ↦ elim (cases_Bool (stands_on v)) [
        | inl on ↦ rw (settle_pass-here hw cpu before within g groups here, filter-yes test g groups here, going-on hw before within g (filter test groups) on, failed-on v g on)
            (filter-yes test g (settle_pass hw cpu before more groups) here ∙ ap (λ gs. g ∷ gs) rest)
        | inr off ↦ rw (settle_pass-here hw cpu before within g groups here, filter-yes test g groups here, going-off hw before within g (filter test groups) off)
            (filter-no test (failed v g) (settle_pass hw cpu before more groups) (failed_stays hw cpu v g (refused_if_not_on hw before within g off)) ∙ rest)
      ]
    ]

-- settling a pass again changes nothing
pub settle_pass-again : (hw : Hardware) (cpu : CpuNo) (before others within : List Judged) (groups : List Group) → groups_on before ≡ groups_on others
    → settle_pass hw cpu others (kept within) (settle_pass hw cpu before within groups) ≡ settle_pass hw cpu before within groups
unfolding settle_pass
settle_pass-again hw cpu before others within [] h = refl
settle_pass-again hw cpu before others within (g ∷ groups) h =
    let v : Standing = judge hw before within g in
    let more : List Judged = within ++ judged g v ∷ [] in
    let done : List Group = settle_pass hw cpu before more groups in
    let rest : settle_pass hw cpu others (kept more) done ≡ done = settle_pass-again hw cpu before others more groups h in
    elim (cases_Bool (is_eligible hw cpu g)) [
      | inr away ↦ rw (settle_pass-away hw cpu before within g groups away)
          (settle_pass-away hw cpu others (kept within) g (settle_pass hw cpu before within groups) away
          ∙ ap (λ gs. g ∷ gs) (settle_pass-again hw cpu before others within groups h))
      | inl here ↦ elim (cases_Bool (stands_on v)) [
        | inl on ↦ rw (settle_pass-here hw cpu before within g groups here, failed-on v g on)
            (settle_pass-here hw cpu others (kept within) g done here
            ∙ (rw (judge-kept hw before others within g h on, kept-on within g v on) (ap (λ gs. g ∷ gs) rest)))
        | inr off ↦ rw (settle_pass-here hw cpu before within g groups here)
            (settle_pass-away hw cpu others (kept within) (failed v g) done (failed_stays hw cpu v g (refused_if_not_on hw before within g off))
            ∙ (rw (kept-off within g v off) (ap (λ gs. failed v g ∷ gs) rest)))
      ]
    ]
