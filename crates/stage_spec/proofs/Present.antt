-- What holds of each instance of a stage holds of those that are on, and of those that go; and what is found among
-- them.
use Rattle.std.specs.Prelude.{◌≡◌, ℕ, ◌<◌, Bool, true, false, ◌&&◌, ◌||◌, List, [], ◌∷◌, ◌++◌, map, flat_map, filter, find, length, Some, None, unwrap_or, cond, suc}
use Rattle.std.{specs.List.{list_any}, proofs.{Common.{arith, refl, sym, ap, ◌∙◌, get_or, subst}, lemmas.{Bool.{false≢true}, Option.{none-some}}}}
use Rattle.std.proofs.lemmas.List.Folds.{list_any_at}
use Rattle.perf_base.specs.{declared.{numbers.{CpuNo.{CpuNo}, EventNo.{EventNo}}, lines.CpuLine.{CpuLine}}, Standings.{stands_on}}
use Rattle.perf_base.specs.declared.lines.CpuLine.TheVariants as cpu_line
use Rattle.perf_base.specs.declared.standing.Context.TheVariants as context
use Rattle.stage_spec.specs.{declared.instance.Instance.{Instance}, Hardware.{Hardware}}
use Rattle.stage_spec.specs.Stage.{Stage, Group, members_of, lists_of, groups_in, members, is_of_family, task_on}
use Rattle.stage_spec.specs.Effective.{is_ready, state_in, ready_members}
use Rattle.stage_spec.specs.Verdict.{Judged, is_eligible, groups_on, judge, judge_pass, judge_passes, passes, task_lists, verdicts, on_instances}
use Rattle.stage_spec.specs.{History.{Step, CpuStep, ToolStep, SeenStep}, Shares.{ready_instances}, Families.{leaving, leaving_by}}
use Rattle.stage_spec.proofs.Each.{Each, none-Each, append-Each, map-Each, filter-Each, flat_map-Each, InGroup, InGroups, InLists, InStage}
use Rattle.stage_spec.proofs.Carried.{lists_of-in, task_lists-in}

pub each_at : {X : Type 0} (P : X → Type 0) (xs : List X) → ((k : ℕ) (d : X) → k < length xs → P (get_or xs k d)) → Each P xs
unfolding Each
each_at P [] h = tt
each_at P (x ∷ xs) h = (h 0 x (omega arith), each_at P xs (λ k d l. h (suc k) d (omega arith)))

-- the instances that are on
abbrev OfJudged : (Instance → Type 0) → Judged → Type 0
OfJudged P j = InGroup P j.group

judge_pass-in : (P : Instance → Type 0) (hw : Hardware) (before within : List Judged) (groups : List Group) → Each (OfJudged P) within → InGroups P groups
    → Each (OfJudged P) (judge_pass hw before within groups)
unfolding judge_pass Each
judge_pass-in P hw before within [] h k = h
judge_pass-in P hw before within (g ∷ groups) h k =
    judge_pass-in P hw before (within ++ record { group = g; standing = judge hw before within g } ∷ []) groups
    (append-Each (OfJudged P) within (record { group = g; standing = judge hw before within g } ∷ []) h (k.0, tt)) k.1

judge_passes-in : (P : Instance → Type 0) (hw : Hardware) (before : List Judged) (ps : List (List Group)) → Each (OfJudged P) before → Each (InGroups P) ps
    → Each (OfJudged P) (judge_passes hw before ps)
unfolding judge_passes Each
judge_passes-in P hw before [] h k = h
judge_passes-in P hw before (pass ∷ rest) h k =
    judge_passes-in P hw (before ++ judge_pass hw before [] pass) rest
    (append-Each (OfJudged P) before (judge_pass hw before [] pass) h (judge_pass-in P hw before [] pass (none-Each (OfJudged P)) k.0)) k.1

passes-in : (P : Instance → Type 0) (s : Stage) (cpu : CpuNo) → InStage P s → Each (InGroups P) (passes s cpu)
unfolding Each
passes-in P s cpu h =
    let own : InLists P (lists_of s (context.Processor cpu)) = lists_of-in P (context.Processor cpu) s h in
    let task : InLists P (task_lists s (task_on s cpu)) = task_lists-in P s (task_on s cpu) h in
    (own.in_pinned, (task.in_pinned, (own.in_flexible, (task.in_flexible, tt))))

pub on_instances-in : (P : Instance → Type 0) (hw : Hardware) (s : Stage) (cpu : CpuNo) → InStage P s → Each P (on_instances hw s cpu)
unfolding verdicts
on_instances-in P hw s cpu h =
    let ps : List (List Group) = map (filter (is_eligible hw cpu)) (passes s cpu) in
    let all : Each (InGroups P) ps =
    map-Each (InGroups P) (InGroups P) (filter (is_eligible hw cpu)) (λ gs k. filter-Each (InGroup P) (is_eligible hw cpu) gs k) (passes s cpu) (passes-in P s cpu h) in
    let js : Each (OfJudged P) (verdicts hw s cpu) = judge_passes-in P hw [] ps (none-Each (OfJudged P)) all in
    flat_map-Each (InGroup P) P (λ g. filter (λ i. is_ready i.own) (members_of g)) (λ g k. filter-Each P (λ i. is_ready i.own) (members_of g) k) (groups_on (verdicts hw s cpu))
    (map-Each (OfJudged P) (InGroup P) (λ j. j.group) (λ j k. k) (filter (λ j. stands_on j.standing) (verdicts hw s cpu))
    (filter-Each (OfJudged P) (λ j. stands_on j.standing) (verdicts hw s cpu) js))

-- those that are ready
pub ready_instances-in : (P : Instance → Type 0) (s : Stage) (cpu : CpuNo) → InStage P s → Each P (ready_instances s cpu)
ready_instances-in P s cpu h =
    flat_map-Each (InGroup P) P ready_members (λ g k. filter-Each P (λ i. is_ready (state_in g i)) (members_of g) k) (flat_map (λ pass. pass) (passes s cpu))
    (flat_map-Each (InGroups P) (InGroup P) (λ pass. pass) (λ pass k. k) (passes s cpu) (passes-in P s cpu h))

-- the instances that go by a step
leaving_by-in : (P : Instance → Type 0) (s : Stage) (cpu : CpuNo) (line : CpuLine) (e : EventNo) → InStage P s → Each P (leaving_by s cpu line e)
leaving_by-in P s cpu (cpu_line.Switch to) e h = none-Each P
leaving_by-in P s cpu (cpu_line.Work w) e h = none-Each P
leaving_by-in P s cpu cpu_line.Tick e h = none-Each P
leaving_by-in P s cpu (cpu_line.Fork child) e h = none-Each P
leaving_by-in P s cpu cpu_line.Exit e h =
    let task : InLists P (task_lists s (task_on s cpu)) = task_lists-in P s (task_on s cpu) h in
    let groups : List Group = groups_in (task_lists s (task_on s cpu)) in
    filter-Each P (λ i. is_of_family e i && i.copy) (members groups)
    (flat_map-Each (InGroup P) P members_of (λ g k. k) groups (append-Each (InGroup P) (task_lists s (task_on s cpu)).pinned (task_lists s (task_on s cpu)).flexible task.in_pinned task.in_flexible))

pub leaving-in : (P : Instance → Type 0) (s : Stage) (x : Step) (e : EventNo) → InStage P s → Each P (leaving s x e)
leaving-in P s (CpuStep cpu line) e h = leaving_by-in P s cpu line e h
leaving-in P s (ToolStep line) e h = none-Each P
leaving-in P s (SeenStep ring place) e h = none-Each P

-- what is found
pub record Found {X : Type 0} (P : X → Type 0) (p : X → Bool) : Type 0 where
  pub it : X
  pub holds : P it
  pub passes : p it ≡ true

pub any-found : {X : Type 0} (P : X → Type 0) (p : X → Bool) (xs : List X) → Each P xs → list_any p xs ≡ true → Found P p
unfolding Each
any-found P p [] h e = absurd (false≢true e)
any-found P p (x ∷ xs) h e = one (p x) refl (λ f. any-found P p xs h.1 f) e
  where
    one : (b : Bool) → p x ≡ b → (list_any p xs ≡ true → Found P p) → (b || list_any p xs) ≡ true → Found P p
    one true is rest f = record { it = x; holds = h.0; passes = is }
    one false is rest f = rest f

pub find-holds : {X : Type 0} (P : X → Type 0) (p : X → Bool) (xs : List X) (x : X) → Each P xs → find p xs ≡ Some x → P x
unfolding Each
find-holds P p [] x h e = absurd (none-some x e)
find-holds P p (y ∷ ys) x h e = one (p y) (λ f. find-holds P p ys x h.1 f) e
  where
    one : (b : Bool) → (find p ys ≡ Some x → P x) → cond b (Some y) (find p ys) ≡ Some x → P x
    one true rest f = subst P (ap (λ o. unwrap_or o x) f) h.0
    one false rest f = rest f

pub find-any : {X : Type 0} (p : X → Bool) (xs : List X) (x : X) → find p xs ≡ Some x → list_any p xs ≡ true
find-any p [] x e = absurd (none-some x e)
find-any p (y ∷ ys) x e = one (p y) (λ f. find-any p ys x f) e
  where
    one : (b : Bool) → (find p ys ≡ Some x → list_any p ys ≡ true) → cond b (Some y) (find p ys) ≡ Some x → (b || list_any p ys) ≡ true
    one true rest f = refl
    one false rest f = rest f

-- each instance is one of its stage, by each test that it passes itself
pub each_there : (test : Instance → Instance → Bool) (xs : List Instance) → Each (λ i. test i i ≡ true → list_any (test i) xs ≡ true) xs
each_there test xs = each_at (λ i. test i i ≡ true → list_any (test i) xs ≡ true) xs (λ k d l e. list_any_at (test (get_or xs k d)) xs k d l e)

pub find-passes : {X : Type 0} (p : X → Bool) (xs : List X) (x : X) → find p xs ≡ Some x → p x ≡ true
find-passes p [] x e = absurd (none-some x e)
find-passes p (y ∷ ys) x e = one (p y) refl (λ f. find-passes p ys x f) e
  where
    one : (b : Bool) → p y ≡ b → (find p ys ≡ Some x → p x ≡ true) → cond b (Some y) (find p ys) ≡ Some x → p x ≡ true
    one true is rest f = ap p (sym (ap (λ o. unwrap_or o x) f)) ∙ is
    one false is rest f = rest f

pub find-none : {X : Type 0} (p : X → Bool) (xs : List X) → find p xs ≡ None → list_any p xs ≡ false
find-none p [] e = refl
find-none p (y ∷ ys) e = one (p y) (λ f. find-none p ys f) e
  where
    one : (b : Bool) → (find p ys ≡ None → list_any p ys ≡ false) → cond b (Some y) (find p ys) ≡ None → (b || list_any p ys) ≡ false
    one true rest f = absurd (none-some y (sym f))
    one false rest f = rest f
