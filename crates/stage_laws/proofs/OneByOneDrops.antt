-- What takes some instances away takes each of them, one after the other: in any order where a context has at most one
-- of them, and where a group goes whole or not at all.
use Rattle.std.specs.Prelude.{◌≡◌, ◌≢◌, ℕ, ◌+◌, ◌≤◌, ◌==◌, Bool, true, false, not, List, [], ◌∷◌, map, filter, flat_map, count_by, slice_index_or}
use Rattle.std.{specs.List.{list_any}, proofs.Common.{arith, refl, sym, ap, ◌∙◌, inl, inr, append-nil, subst, set}}
use Rattle.std.proofs.lemmas.{Bool.{cases_Bool, cases_eq, false≢true}, Grind.{flat_map-append}}
use Rattle.perf_base.specs.declared.standing.Context.{Context}
use Rattle.perf_base.specs.declared.standing.Context.TheVariants as context
use Rattle.stage_spec.specs.{declared.instance.Instance.{Instance}, Hardware.{Hardware}}
use Rattle.stage_spec.specs.Stage.{Stage, Group, members_of, alone, Lists, lists_of, no_groups, groups_in, members, all_groups, all_instances, place_of, is_of_family, is_copy}
use Rattle.stage_spec.specs.{Closing.{staying, kept_group, freed_groups, without, closed}, Verdict.{instances_in}}
use Rattle.stage_spec.proofs.Each.{Each, none-Each, append-Each, filter-Each, flat_map-Each, flat_map-same, weaker-Each, get_or-Each, InGroup, InGroups, InLists, InStage, no_groups-In}
use Rattle.stage_spec.proofs.Parts.{Each-from_All, front-Each, back-Each, joined-Each}
use Rattle.stage_spec.proofs.{Inside.{members-in, InLists-from_members, InStage-from_all, weaker-in, both-in, without-in}, Contexts.{each-from_At}}
use Rattle.stage_spec.proofs.Settling.{either}
use Rattle.stage_laws.specs.{Sound.{IsNumbered, IsGrouped, IsGroup, has_id}, OneByOne.{AreIdsOf, CloseOneByOneLaw, ExitOneByOneLaw}}
use Rattle.stage_laws.proofs.{Counts.{count-cons, count-filter, two_places, map-at_one}, Homes.{context_at, place_of-at}}
use Rattle.stage_laws.proofs.Untouched.{staying-all, without-none}
use Rattle.stage_laws.proofs.Totals.{total, All-by_total, as_number, one_if, count_by-is-total, sum_by-is-total}
use Rattle.stage_laws.proofs.Weights.{lists_weight, lists-weigh, weight_in-le, weigh-is-count, no_groups-weigh}
use Rattle.stage_laws.proofs.OneByOne.{each-same, each-within, each-stands, StandsAs, in_turn, with_contexts, fold-contexts, map-same_each, same_tests, pair-Each, has_own_id}

-- a group whose leader goes, and one whose leader stays
kept-goes : (p : Instance → Bool) (g : Group) → p g.leader ≡ true → kept_group p g ≡ []
kept-goes p g e = ap (λ b. either b [] (record g { siblings = staying p g.siblings } ∷ [])) e

kept-stays : (p : Instance → Bool) (g : Group) → p g.leader ≡ false → kept_group p g ≡ record g { siblings = staying p g.siblings } ∷ []
kept-stays p g e = ap (λ b. either b [] (record g { siblings = staying p g.siblings } ∷ [])) e

freed-goes : (p : Instance → Bool) (g : Group) → p g.leader ≡ true → freed_groups p g ≡ map alone (staying p g.siblings)
freed-goes p g e = ap (λ b. either b (map alone (staying p g.siblings)) []) e

freed-stays : (p : Instance → Bool) (g : Group) → p g.leader ≡ false → freed_groups p g ≡ []
freed-stays p g e = ap (λ b. either b (map alone (staying p g.siblings)) []) e

-- tests that agree on each instance take the same away
staying-same : (p q : Instance → Bool) (xs : List Instance) → Each (λ i. p i ≡ q i) xs → staying p xs ≡ staying q xs
unfolding Each
staying-same p q [] same = refl
staying-same p q (x ∷ xs) same = rw (same.0, staying-same p q xs same.1) refl

kept-same : (p q : Instance → Bool) (g : Group) → InGroup (λ i. p i ≡ q i) g → kept_group p g ≡ kept_group q g
unfolding Each
kept-same p q g same = grind (arith, either, staying-same)

freed-same : (p q : Instance → Bool) (g : Group) → InGroup (λ i. p i ≡ q i) g → freed_groups p g ≡ freed_groups q g
unfolding Each
freed-same p q g same = grind (arith, either, staying-same)

without-same : (p q : Instance → Bool) (l : Lists) → InLists (λ i. p i ≡ q i) l → without p l ≡ without q l
without-same p q l same =
    let kept : (groups : List Group) → InGroups (λ i. p i ≡ q i) groups → flat_map (kept_group p) groups ≡ flat_map (kept_group q) groups
    = λ groups h. flat_map-same (kept_group p) (kept_group q) groups (weaker-Each (InGroup (λ i. p i ≡ q i)) (λ g. kept_group p g ≡ kept_group q g) (kept-same p q) groups h) in
    let freed : flat_map (freed_groups p) (groups_in l) ≡ flat_map (freed_groups q) (groups_in l)
    = flat_map-same (freed_groups p) (freed_groups q) (groups_in l) (weaker-Each (InGroup (λ i. p i ≡ q i)) (λ g. freed_groups p g ≡ freed_groups q g) (freed-same p q) (groups_in l)
    (append-Each (InGroup (λ i. p i ≡ q i)) l.pinned l.flexible same.in_pinned same.in_flexible)) in
    rw (kept l.pinned same.in_pinned, kept l.flexible same.in_flexible, freed) refl

-- and what no instance passes takes nothing away
none-any : (p : Instance → Bool) (xs : List Instance) → Each (λ i. p i ≡ false) xs → list_any p xs ≡ false
unfolding Each
none-any p [] none = refl
none-any p (x ∷ xs) none = rw none.0 (none-any p xs none.1)

none_of-members : (p : Instance → Bool) (groups : List Group) → InGroups (λ i. p i ≡ false) groups → list_any p (members groups) ≡ false
none_of-members p groups none = none-any p (members groups) (flat_map-Each (InGroup (λ i. p i ≡ false)) (λ i. p i ≡ false) members_of (λ g h. h) groups none)

none-goes : (p : Instance → Bool) (l : Lists) → InLists (λ i. p i ≡ false) l → without p l ≡ l
none-goes p l none = without-none p l (record { pinned = none_of-members p l.pinned none.in_pinned; flexible = none_of-members p l.flexible none.in_flexible })

-- ids that no instance of a context has
not_passed : (b : Bool) (m n : ℕ) → m ≡ as_number b + n → m ≡ 0 → b ≡ false
not_passed true m n e none = absurd (omega (arith, e, none))
not_passed false m n e none = refl

dropped-none : (ids : List ℕ) (l : Lists) → InLists (λ i. StandsAs ids i false) l → in_turn (λ id. without (has_id id)) ids l ≡ l
dropped-none [] l none = refl
dropped-none (id ∷ ids) l none =
    let first : without (has_id id) l ≡ l = none-goes (has_id id) l
    (weaker-in (λ i. StandsAs (id ∷ ids) i false) (λ i. has_id id i ≡ false) (λ i h. not_passed (has_id id i) _ _ (count-cons (λ n. i.id == n) id ids) h) l none) in
    let rest : InLists (λ i. StandsAs ids i false) l
    = weaker-in (λ i. StandsAs (id ∷ ids) i false) (λ i. StandsAs ids i false) (λ i h. omega (arith, count-cons (λ n. i.id == n) id ids, h)) l none in
    rw first (dropped-none ids l rest)

none_weighs : (test : Instance → Bool) (xs : List Instance) → total (one_if test) xs ≡ 0 → Each (λ i. test i ≡ false) xs
none_weighs test xs none = Each-from_All (λ i. test i ≡ false) xs
    (All-by_total (one_if test) (λ i. test i ≡ false) (λ i h. not_passed (test i) 0 0 (let none : as_number (test i) ≡ 0 = h in omega (arith, none)) refl) xs none)

-- a context with at most one of the instances that go
id-goes : (b c : Bool) (m n : ℕ) → m ≡ as_number b + n → m ≡ as_number c → as_number b ≤ as_number c
id-goes b c m n e h = omega (arith, e, h)

rest-stands : (b c : Bool) (m n : ℕ) → m ≡ as_number b + n → m ≡ as_number c → b ≡ false → n ≡ as_number c
rest-stands true c m n e h none = absurd (false≢true (sym none))
rest-stands false c m n e h none = omega (arith, e, h)

stays-none : (c : Bool) (n : ℕ) → n ≡ as_number c → c ≡ false → n ≡ 0
stays-none true n h e = absurd (false≢true (sym e))
stays-none false n h e = h

dropped-at_most_one : (test : Instance → Bool) (ids : List ℕ) (l : Lists) → InLists (λ i. StandsAs ids i (test i)) l → lists_weight (one_if test) l ≤ 1
    → in_turn (λ id. without (has_id id)) ids l ≡ without test l
dropped-at_most_one test [] l stands few = grind (arith, none-goes, weaker-in, StandsAs, not_passed, as_number)
dropped-at_most_one test (id ∷ ids) l stands few =
    let counted : (i : Instance) → count_by (λ n. i.id == n) (id ∷ ids) ≡ as_number (has_id id i) + count_by (λ n. i.id == n) ids = λ i. count-cons (λ n. i.id == n) id ids in
    elim (cases_eq (lists_weight (one_if (has_id id)) l) 0) [
      | inl none ↦
          let absent : InLists (λ i. has_id id i ≡ false) l
          = InLists-from_members (λ i. has_id id i ≡ false) l (none_weighs (has_id id) (members (groups_in l)) (lists-weigh (one_if (has_id id)) l ∙ none)) in
          let first : without (has_id id) l ≡ l = none-goes (has_id id) l absent in
          let rest : InLists (λ i. StandsAs ids i (test i)) l
          = both-in (λ i. StandsAs (id ∷ ids) i (test i)) (λ i. has_id id i ≡ false) (λ i. StandsAs ids i (test i))
          (λ i h away. rest-stands (has_id id i) (test i) _ _ (counted i) h away) l stands absent in
          rw first (dropped-at_most_one test ids l rest few)
      | inr some ↦
          let within : Each (λ i. one_if (has_id id) i ≤ one_if test i) (members (groups_in l))
          = members-in (λ i. one_if (has_id id) i ≤ one_if test i) l
          (weaker-in (λ i. StandsAs (id ∷ ids) i (test i)) (λ i. one_if (has_id id) i ≤ one_if test i) (λ i h. id-goes (has_id id i) (test i) _ _ (counted i) h) l stands) in
          let agree : InLists (λ i. has_id id i ≡ test i) l
          = InLists-from_members (λ i. has_id id i ≡ test i) l
          (weaker-Each (λ i. one_if (has_id id) i ≡ one_if test i) (λ i. has_id id i ≡ test i) (λ i h. same_tests (has_id id i) (test i) h) (members (groups_in l))
          (each-same (one_if (has_id id)) (one_if test) (members (groups_in l)) within
          (omega (arith, lists-weigh (one_if (has_id id)) l, lists-weigh (one_if test) l, few, some)))) in
          let stays : InLists (λ i. StandsAs ids i false) (without test l)
          = without-in (λ i. StandsAs (id ∷ ids) i (test i) × (has_id id i ≡ test i)) (λ i. StandsAs ids i false) test
          (λ i away h. stays-none (test i) _ (rest-stands (has_id id i) (test i) _ _ (counted i) h.0 (h.1 ∙ away)) away) l
          (both-in (λ i. StandsAs (id ∷ ids) i (test i)) (λ i. has_id id i ≡ test i) (λ i. StandsAs (id ∷ ids) i (test i) × (has_id id i ≡ test i)) (λ i h a. (h, a)) l stands agree) in
          rw (without-same (has_id id) test l agree) (dropped-none ids (without test l) stays)
    ]

-- closing
context_weighs : (test : Instance → Bool) (s : Stage) (c : Context) → count_by test (instances_in s c) ≡ lists_weight (one_if test) (lists_of s c)
context_weighs test s c = count_by-is-total test (instances_in s c) ∙ lists-weigh (one_if test) (lists_of s c)

pub closed_one_by_one : CloseOneByOneLaw
unfolding closed
closed_one_by_one e s ids numbered placed order =
    let test : Instance → Bool = is_of_family e in
    let stands : InStage (λ i. StandsAs ids i (test i)) s = InStage-from_all (λ i. StandsAs ids i (test i)) s (each-stands test (all_instances s) ids numbered.once order) in
    let few : Each (λ l. lists_weight (one_if test) l ≤ 1) s.contexts = each-from_At (λ l. lists_weight (one_if test) l ≤ 1) s
    (λ n. subst (λ k. lists_weight (one_if test) (slice_index_or s.contexts k no_groups) ≤ 1) (place_of-at n)
    (omega (arith, placed.one_of_family (context_at n) e, context_weighs test s (context_at n)))) in
    fold-contexts (λ id. without (has_id id)) ids s
    ∙ ap (λ cs. with_contexts cs s) (map-same_each (in_turn (λ id. without (has_id id)) ids) (without test) s.contexts
    (weaker-Each (λ l. InLists (λ i. StandsAs ids i (test i)) l × (lists_weight (one_if test) l ≤ 1)) (λ l. in_turn (λ id. without (has_id id)) ids l ≡ without test l)
    (λ l h. dropped-at_most_one test ids l h.0 h.1) s.contexts
    (pair-Each (λ l. InLists (λ i. StandsAs ids i (test i)) l) (λ l. lists_weight (one_if test) l ≤ 1) s.contexts stands few)))

-- groups that go whole or not at all
abbrev GoesWhole : (Instance → Bool) → Group → Type 0
GoesWhole test g = Each (λ i. test i ≡ test g.leader) g.siblings

record AllWhole (test : Instance → Bool) (l : Lists) : Type 0 where
  whole_pinned : Each (GoesWhole test) l.pinned
  whole_flexible : Each (GoesWhole test) l.flexible

abbrev Implies : (p test : Instance → Bool) → Instance → Type 0
Implies p test i = p i ≡ true → test i ≡ true

contrary : (b c : Bool) → (b ≡ true → c ≡ true) → c ≡ false → b ≡ false
contrary true c h none = absurd (false≢true (sym none ∙ h refl))
contrary false c h none = refl

staying-no_one : (p : Instance → Bool) (xs : List Instance) → Each (λ i. p i ≡ true) xs → staying p xs ≡ []
unfolding Each
staying-no_one p [] all = refl
staying-no_one p (x ∷ xs) all = rw (all.0) (staying-no_one p xs all.1)

-- one of them taken away leaves them so
whole-kept : (p test : Instance → Bool) (g : Group) → GoesWhole test g → Each (GoesWhole test) (kept_group p g)
unfolding Each
whole-kept p test g whole = grind (arith, kept-goes, kept-stays, filter-Each)

whole-alone : (test : Instance → Bool) (xs : List Instance) → Each (GoesWhole test) (map alone xs)
unfolding Each
whole-alone test [] = tt
whole-alone test (x ∷ xs) = (tt, whole-alone test xs)

whole-freed : (p test : Instance → Bool) (g : Group) → GoesWhole test g → Each (GoesWhole test) (freed_groups p g)
unfolding Each
whole-freed p test g whole = elim (cases_Bool (p g.leader)) [
  | inl e ↦ rw (freed-goes p g e) (whole-alone test (staying p g.siblings))
  | inr e ↦ rw (freed-stays p g e) tt
]

whole-without : (p test : Instance → Bool) (l : Lists) → AllWhole test l → AllWhole test (without p l)
whole-without p test l whole = grind (arith, flat_map-Each, whole-kept, append-Each, whole-freed)

-- and what is left of a group goes as all of it would
abbrev GoesFor : (p test : Instance → Bool) → Group → Type 0
GoesFor p test g = GoesWhole test g × InGroup (Implies p test) g

siblings-test : (test : Instance → Bool) (b : Bool) (g : Group) → GoesWhole test g → test g.leader ≡ b → Each (λ i. test i ≡ b) g.siblings
siblings-test test b g whole e = weaker-Each (λ i. test i ≡ test g.leader) (λ i. test i ≡ b) (λ i h. h ∙ e) g.siblings whole

siblings-stay : (p test : Instance → Bool) (g : Group) → GoesFor p test g → test g.leader ≡ false → staying p g.siblings ≡ g.siblings
unfolding Each
siblings-stay p test g h e = grind (arith, staying-all, none-any, weaker-Each, contrary, pair-Each, siblings-test)

kept-twice : (p test : Instance → Bool) (g : Group) → GoesFor p test g → flat_map (kept_group test) (kept_group p g) ≡ kept_group test g
unfolding Each
kept-twice p test g h = elim (cases_Bool (p g.leader)) [
  | inl e ↦ rw (kept-goes p g e) (sym (kept-goes test g (h.1.0 e)))
  | inr e ↦ elim (cases_Bool (test g.leader)) [
    | inl goes ↦ rw (kept-stays p g e, kept-goes test (record g { siblings = staying p g.siblings }) goes) (sym (kept-goes test g goes))
    | inr stays ↦ rw (kept-stays p g e, siblings-stay p test g h stays) (append-nil (kept_group test g))
  ]
]

kept-none : (test : Instance → Bool) (xs : List Instance) → Each (λ i. test i ≡ true) xs → flat_map (kept_group test) (map alone xs) ≡ []
unfolding Each
kept-none test [] all = refl
kept-none test (x ∷ xs) all = rw (kept-goes test (alone x) all.0) (kept-none test xs all.1)

freed-twice : (p test : Instance → Bool) (g : Group) → GoesFor p test g → flat_map (kept_group test) (freed_groups p g) ≡ []
unfolding Each
freed-twice p test g h = elim (cases_Bool (p g.leader)) [
  | inl e ↦ rw (freed-goes p g e) (kept-none test (staying p g.siblings) (filter-Each (λ i. test i ≡ true) (λ i. not (p i)) g.siblings (siblings-test test true g h.0 (h.1.0 e))))
  | inr e ↦ rw (freed-stays p g e) refl
]

freed-whole : (test : Instance → Bool) (g : Group) → GoesWhole test g → freed_groups test g ≡ []
freed-whole test g whole = elim (cases_Bool (test g.leader)) [
  | inl e ↦ rw (freed-goes test g e, staying-no_one test g.siblings (siblings-test test true g whole e)) refl
  | inr e ↦ freed-stays test g e
]

flat_map-twice : {X Y Z : Type 0} (f : Y → List Z) (g : X → List Y) (xs : List X) → flat_map f (flat_map g xs) ≡ flat_map (λ x. flat_map f (g x)) xs
flat_map-twice f g [] = refl
flat_map-twice f g (x ∷ xs) = rw (flat_map-append f (g x) (flat_map g xs), flat_map-twice f g xs) refl

flat_map-empty : {X Y : Type 0} (f : X → List Y) (xs : List X) → Each (λ x. f x ≡ []) xs → flat_map f xs ≡ []
unfolding Each
flat_map-empty f [] none = refl
flat_map-empty f (x ∷ xs) none = rw none.0 (flat_map-empty f xs none.1)

record AllGoFor (p test : Instance → Bool) (l : Lists) : Type 0 where
  for_pinned : Each (GoesFor p test) l.pinned
  for_flexible : Each (GoesFor p test) l.flexible

kept_all-twice : (p test : Instance → Bool) (groups : List Group) → Each (GoesFor p test) groups
    → flat_map (kept_group test) (flat_map (kept_group p) groups) ≡ flat_map (kept_group test) groups
kept_all-twice p test groups h = search (flat_map-twice, flat_map-same, weaker-Each, kept-twice)

freed_all-twice : (p test : Instance → Bool) (groups : List Group) → Each (GoesFor p test) groups → flat_map (kept_group test) (flat_map (freed_groups p) groups) ≡ []
freed_all-twice p test groups h = grind (arith, flat_map-twice, flat_map-empty, weaker-Each, freed-twice)

freed_all-whole : (test : Instance → Bool) (l : Lists) → AllWhole test l → flat_map (freed_groups test) (groups_in l) ≡ []
freed_all-whole test l whole = grind (arith, flat_map-empty, weaker-Each, freed-whole, append-Each)

without-whole : (test : Instance → Bool) (l : Lists) → AllWhole test l
    → without test l ≡ record { pinned = flat_map (kept_group test) l.pinned; flexible = flat_map (kept_group test) l.flexible }
without-whole test l whole = rw (freed_all-whole test l whole, append-nil) refl

without-twice : (p test : Instance → Bool) (l : Lists) → AllWhole test l → InLists (Implies p test) l → without test (without p l) ≡ without test l
without-twice p test l whole implies =
    let pinned : Each (GoesFor p test) l.pinned = pair-Each (GoesWhole test) (InGroup (Implies p test)) l.pinned whole.whole_pinned implies.in_pinned in
    let flexible : Each (GoesFor p test) l.flexible = pair-Each (GoesWhole test) (InGroup (Implies p test)) l.flexible whole.whole_flexible implies.in_flexible in
    rw (
      without-whole test (without p l) (whole-without p test l whole),
      without-whole test l whole,
      kept_all-twice p test l.pinned pinned,
      flat_map-append (kept_group test) (flat_map (kept_group p) l.flexible) (flat_map (freed_groups p) (groups_in l)),
      kept_all-twice p test l.flexible flexible,
      freed_all-twice p test (groups_in l) (append-Each (GoesFor p test) l.pinned l.flexible pinned flexible),
      append-nil,
    ) refl

id-implies : (b c : Bool) (m n : ℕ) → m ≡ as_number b + n → m ≡ as_number c → b ≡ true → c ≡ true
id-implies b true m n e h k = refl
id-implies b false m n e h k = absurd (omega (arith, e, h, ap as_number k))

dropped-whole : (test : Instance → Bool) (ids : List ℕ) (l : Lists) → AllWhole test l → InLists (λ i. StandsAs ids i (test i)) l
    → in_turn (λ id. without (has_id id)) ids l ≡ without test l
dropped-whole test [] l whole stands = grind (arith, none-goes, weaker-in, StandsAs, not_passed, as_number)
dropped-whole test (id ∷ ids) l whole stands =
    let counted : (i : Instance) → count_by (λ n. i.id == n) (id ∷ ids) ≡ as_number (has_id id i) + count_by (λ n. i.id == n) ids = λ i. count-cons (λ n. i.id == n) id ids in
    let implies : InLists (Implies (has_id id) test) l
    = weaker-in (λ i. StandsAs (id ∷ ids) i (test i)) (Implies (has_id id) test) (λ i h. id-implies (has_id id i) (test i) _ _ (counted i) h) l stands in
    let rest : InLists (λ i. StandsAs ids i (test i)) (without (has_id id) l)
    = without-in (λ i. StandsAs (id ∷ ids) i (test i)) (λ i. StandsAs ids i (test i)) (has_id id) (λ i away h. rest-stands (has_id id i) (test i) _ _ (counted i) h away) l stands in
    dropped-whole test ids (without (has_id id) l) (whole-without (has_id id) test l whole) rest ∙ without-twice (has_id id) test l whole implies

-- an exit: the task's copies go, and no group of its context has both copies and others
copies-whole : (hw : Hardware) (groups : List Group) → Each (IsGroup hw) groups → Each (GoesWhole is_copy) groups
copies-whole hw groups h = grind (arith, weaker-Each, Each-from_All)

context-whole : (hw : Hardware) (s : Stage) (c : Context) → IsGrouped hw s → AllWhole is_copy (lists_of s c)
context-whole hw s c grouped =
    let each : Each (λ l. Each (IsGroup hw) (groups_in l)) s.contexts = joined-Each (IsGroup hw) groups_in s.contexts (Each-from_All (IsGroup hw) (all_groups s) grouped.groups) in
    let here : Each (IsGroup hw) (groups_in (lists_of s c)) = get_or-Each (λ l. Each (IsGroup hw) (groups_in l)) s.contexts (place_of c) no_groups each (none-Each (IsGroup hw)) in
    grind (arith, copies-whole, front-Each, here, back-Each)

-- no instance of another context has one of the ids
alone_at : (s : Stage) (n m id : ℕ) → IsNumbered s → n ≢ m
    → lists_weight (one_if (has_id id)) (slice_index_or s.contexts n no_groups) + lists_weight (one_if (has_id id)) (slice_index_or s.contexts m no_groups) ≤ 1
alone_at s n m id numbered apart =
    let f : Lists → ℕ = lists_weight (one_if (has_id id)) in
    omega (arith, two_places f no_groups (no_groups-weigh (one_if (has_id id))) s.contexts n m apart, sum_by-is-total f s.contexts, weigh-is-count (has_id id) s, numbered.once id)

others-stand : (test : Instance → Bool) (c : Context) (s : Stage) (ids : List ℕ) → IsNumbered s → AreIdsOf (filter test (instances_in s c)) ids → (k : ℕ) → k ≢ place_of c
    → InLists (λ i. StandsAs ids i false) (slice_index_or s.contexts k no_groups)
others-stand test c s ids numbered order k apart =
    let l : Lists = slice_index_or s.contexts k no_groups in
    InLists-from_members (λ i. StandsAs ids i false) l
    (weaker-Each (λ i. one_if (has_id i.id) i ≤ total (one_if (has_id i.id)) (members (groups_in l))) (λ i. StandsAs ids i false)
    (λ i h. omega (
      arith,
      order i.id,
      count-filter (has_id i.id) test (instances_in s c),
      context_weighs (has_id i.id) s c,
      lists-weigh (one_if (has_id i.id)) l,
      h,
      has_own_id i,
      alone_at s k (place_of c) i.id numbered apart,
    )) (members (groups_in l))
    (each-within (λ i. one_if (has_id i.id)) (members (groups_in l))))

pub exited_one_by_one : ExitOneByOneLaw
exited_one_by_one hw task s ids numbered grouped order =
    let c : Context = context.Task task in
    let f : Lists → Lists = in_turn (λ id. without (has_id id)) ids in
    let stands : InLists (λ i. StandsAs ids i i.copy) (lists_of s c) = InLists-from_members (λ i. StandsAs ids i i.copy) (lists_of s c)
    (each-stands is_copy (instances_in s c) ids
    (λ n. omega (arith, context_weighs (has_id n) s c, weight_in-le (one_if (has_id n)) s c, weigh-is-count (has_id n) s, numbered.once n)) order) in
    let here : f (lists_of s c) ≡ without is_copy (lists_of s c) = dropped-whole is_copy ids (lists_of s c) (context-whole hw s c grouped) stands in
    let one : set s.contexts (place_of c) (f (lists_of s c)) ≡ map f s.contexts
    = map-at_one f no_groups (dropped-none ids no_groups (no_groups-In (λ i. StandsAs ids i false))) s.contexts (place_of c)
    (λ k apart. dropped-none ids (slice_index_or s.contexts k no_groups) (others-stand is_copy c s ids numbered order k apart)) in
    fold-contexts (λ id. without (has_id id)) ids s
    ∙ (ap (λ cs. with_contexts cs s) (sym one) ∙ ap (λ l. with_contexts (set s.contexts (place_of c) l) s) here)
