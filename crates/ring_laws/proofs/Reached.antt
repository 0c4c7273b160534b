-- How many of the instances that are on are of families that sample.
use Rattle.std.specs.Prelude.{◌≡◌, ℕ, ◌+◌, ◌*◌, ◌≤◌, Bool, true, false, ◌||◌, List, [], ◌∷◌, ◌++◌, length, map, filter, flat_map, sum_by, count_by, cond}
use Rattle.std.proofs.{Common.{arith, refl}, lemmas.List.{length-append, Sums.{sum_by-append, sum_by-cons}}}
use Rattle.perf_base.specs.{declared.numbers.{CpuNo.{CpuNo}, EventNo.{EventNo}}, Standings.{stands_on}}
use Rattle.stage_spec.specs.{declared.instance.Instance.{Instance}, Hardware.{Hardware}, Stage.{Stage, Group, members_of, members, is_of_family}}
use Rattle.stage_spec.specs.{Effective.{is_ready}, Commands.{is_reached}}
use Rattle.stage_spec.specs.Verdict.{reached, Judged, is_eligible, judge, judge_pass, judge_passes, passes, verdicts, on_instances}
use Rattle.stage_spec.proofs.Each.{Each}
use Rattle.stage_laws.proofs.Counts.{count-append, count-filter}

-- a processor reaches at most one instance of a family
abbrev pub IsOneReached : Stage → Type 0
IsOneReached s = (cpu : CpuNo) (e : EventNo) → count_by (is_of_family e) (reached s cpu) ≤ 1

pub count-one : {X : Type 0} (p : X → Bool) (x : X) (xs : List X) → count_by p (x ∷ xs) ≡ cond (p x) 1 0 + count_by p xs
count-one p x xs = sum_by-cons (λ y. cond (p y) 1 0) x xs

-- by groups, and by what was judged
abbrev in_groups : (Instance → Bool) → List Group → ℕ
in_groups p groups = sum_by (λ g. count_by p (members_of g)) groups

abbrev in_judged : (Instance → Bool) → List Judged → ℕ
in_judged p judged = sum_by (λ j. count_by p (members_of j.group)) judged

on-fewer : (p : Instance → Bool) (judged : List Judged)
    → count_by p (flat_map (λ g. filter (λ i. is_ready i.own) (members_of g)) (map (λ j. j.group) (filter (λ j. stands_on j.standing) judged))) ≤ in_judged p judged
on-fewer p [] = omega arith
on-fewer p (j ∷ judged) = one (stands_on j.standing) (on-fewer p judged)
  where
    of : List Judged → ℕ
    of js = count_by p (flat_map (λ g. filter (λ i. is_ready i.own) (members_of g)) (map (λ k. k.group) js))

    one : (b : Bool) → of (filter (λ k. stands_on k.standing) judged) ≤ in_judged p judged
        → of (cond b (j ∷ filter (λ k. stands_on k.standing) judged) (filter (λ k. stands_on k.standing) judged)) ≤ in_judged p (j ∷ judged)
    one true h =
        omega (
          arith,
          h,
          sum_by-cons (λ k. count_by p (members_of k.group)) j judged,
          count-filter p (λ i. is_ready i.own) (members_of j.group),
          count-append p (filter (λ i. is_ready i.own) (members_of j.group)) (flat_map (λ g. filter (λ i. is_ready i.own) (members_of g)) (map (λ k. k.group) (filter (λ k. stands_on k.standing) judged))),
        )
    one false h = omega (arith, h, sum_by-cons (λ k. count_by p (members_of k.group)) j judged)

pass-judged : (p : Instance → Bool) (hw : Hardware) (before within : List Judged) (groups : List Group) → in_judged p (judge_pass hw before within groups) ≡ in_judged p within + in_groups p groups
unfolding judge_pass
pass-judged p hw before within [] = omega arith
pass-judged p hw before within (g ∷ groups) =
    let j : Judged = record { group = g; standing = judge hw before within g } in
    omega (
      arith,
      pass-judged p hw before (within ++ j ∷ []) groups,
      sum_by-append (λ k. count_by p (members_of k.group)) within (j ∷ []),
      sum_by-cons (λ (h : Group). count_by p (members_of h)) g groups,
    )

passes-judged : (p : Instance → Bool) (hw : Hardware) (before : List Judged) (ps : List (List Group)) → in_judged p (judge_passes hw before ps) ≡ in_judged p before + sum_by (in_groups p) ps
unfolding judge_passes
passes-judged p hw before [] = omega arith
passes-judged p hw before (pass ∷ rest) =
    omega (
      arith,
      passes-judged p hw (before ++ judge_pass hw before [] pass) rest,
      sum_by-append (λ k. count_by p (members_of k.group)) before (judge_pass hw before [] pass),
      pass-judged p hw before [] pass,
      sum_by-cons (in_groups p) pass rest,
    )

fewer-groups : (p : Instance → Bool) (q : Group → Bool) (groups : List Group) → in_groups p (filter q groups) ≤ in_groups p groups
fewer-groups p q [] = omega arith
fewer-groups p q (g ∷ groups) = one (q g) (fewer-groups p q groups)
  where
    one : (b : Bool) → in_groups p (filter q groups) ≤ in_groups p groups → in_groups p (cond b (g ∷ filter q groups) (filter q groups)) ≤ in_groups p (g ∷ groups)
    one true h = omega (arith, h, sum_by-cons (λ (k : Group). count_by p (members_of k)) g groups, sum_by-cons (λ (k : Group). count_by p (members_of k)) g (filter q groups))
    one false h = omega (arith, h, sum_by-cons (λ (k : Group). count_by p (members_of k)) g groups)

fewer-passes : (p : Instance → Bool) (q : Group → Bool) (ps : List (List Group)) → sum_by (in_groups p) (map (filter q) ps) ≤ sum_by (in_groups p) ps
fewer-passes p q [] = omega arith
fewer-passes p q (pass ∷ ps) = omega (arith, fewer-passes p q ps, fewer-groups p q pass, sum_by-cons (in_groups p) pass ps, sum_by-cons (in_groups p) (filter q pass) (map (filter q) ps))

all-groups : (p : Instance → Bool) (groups : List Group) → in_groups p groups ≡ count_by p (members groups)
all-groups p [] = refl
all-groups p (g ∷ groups) = omega (arith, all-groups p groups, sum_by-cons (λ (k : Group). count_by p (members_of k)) g groups, count-append p (members_of g) (members groups))

all-passes : (p : Instance → Bool) (ps : List (List Group)) → sum_by (in_groups p) ps ≡ count_by p (members (flat_map (λ pass. pass) ps))
all-passes p [] = refl
all-passes p (pass ∷ ps) =
    omega (
      arith,
      all-passes p ps,
      sum_by-cons (in_groups p) pass ps,
      sum_by-append (λ (k : Group). count_by p (members_of k)) pass (flat_map (λ q. q) ps),
      all-groups p (pass ++ flat_map (λ q. q) ps),
      all-groups p (flat_map (λ q. q) ps),
    )

-- the instances that are on are among those that the processor reaches
pub on-reached : (p : Instance → Bool) (hw : Hardware) (s : Stage) (cpu : CpuNo) → count_by p (on_instances hw s cpu) ≤ count_by p (reached s cpu)
unfolding verdicts
on-reached p hw s cpu =
    let ps : List (List Group) = map (filter (is_eligible hw cpu)) (passes s cpu) in
    omega (arith, on-fewer p (verdicts hw s cpu), passes-judged p hw [] ps, fewer-passes p (is_eligible hw cpu) (passes s cpu), all-passes p (passes s cpu))

-- no more instances than slots, where each family has at most one
either-count : {X : Type 0} (p q : X → Bool) (xs : List X) → count_by (λ x. p x || q x) xs ≤ count_by p xs + count_by q xs
either-count p q [] = omega arith
either-count p q (x ∷ xs) =
    omega (arith, either-count p q xs, count-one (λ y. p y || q y) x xs, count-one p x xs, count-one q x xs, one (p x) (q x))
  where
    one : (a b : Bool) → cond (a || b) 1 0 ≤ cond a 1 0 + cond b 1 0
    one true b = omega arith
    one false b = omega arith

none-counted : {X : Type 0} (xs : List X) → count_by (λ x. false) xs ≡ 0
none-counted [] = refl
none-counted (x ∷ xs) = omega (arith, none-counted xs, count-one (λ y. false) x xs)

pub one_each : (slots : List EventNo) (xs : List Instance) → ((e : EventNo) → count_by (is_of_family e) xs ≤ 1) → count_by (is_reached slots) xs ≤ length slots
one_each [] xs h = omega (arith, none-counted xs)
one_each (e ∷ slots) xs h = omega (arith, one_each slots xs h, h e, either-count (is_of_family e) (is_reached slots) xs)

-- what lists give together
pub length-most : {X Y : Type 0} (f : X → List Y) (p : X → Bool) (n : ℕ) (xs : List X) → Each (λ x. length (f x) ≤ cond (p x) n 0) xs → length (flat_map f xs) ≤ count_by p xs * n
unfolding Each
length-most f p n [] h = omega arith
length-most f p n (x ∷ xs) h = rw (count-one p x xs) (one (p x) h.0 (length-most f p n xs h.1))
  where
    one : (b : Bool) → length (f x) ≤ cond b n 0 → length (flat_map f xs) ≤ count_by p xs * n → length (flat_map f (x ∷ xs)) ≤ (cond b 1 0 + count_by p xs) * n
    one true k rest = omega (arith, k, rest, length-append (f x) (flat_map f xs))
    one false k rest = omega (arith, k, rest, length-append (f x) (flat_map f xs))
