-- What a step adds to an event with its copies: a processor reaches at most one instance of a family.
use Rattle.std.specs.Prelude.{◌≡◌, ℕ, ◌+◌, ◌≤◌, ◌==◌, Bool, true, false, cond, List, [], ◌∷◌, ◌++◌, map, filter, find, flat_map, slice_index_or, Some}
use Rattle.std.proofs.{Common.{arith, refl, ◌∙◌, sym, inl, inr}, Math.Nat.{mul-le-mul_right}, lemmas.Bool.{cases_Bool, eq-eqb}}
use Rattle.std.proofs.lemmas.Bool.Decides.{nat_tests}
use Rattle.perf_base.specs.{declared.numbers.{CpuNo.{CpuNo}, EventNo.{EventNo}}, Standings.{stands_on}}
use Rattle.stage_spec.specs.{declared.instance.Instance.{Instance}, Hardware.{Hardware}}
use Rattle.stage_spec.specs.{Stage.{Stage, Group, members_of, all_instances, is_of_family}, Effective.{is_ready}}
use Rattle.stage_spec.specs.Verdict.{Judged, is_eligible, groups_on, judge, judge_pass, judge_passes, passes, verdicts, on_instances, reached}
use Rattle.stage_spec.{specs.Shares.{of_instance, ready_instances}, proofs.{Each.{Each, weaker-Each}, Parts.{All-from_Each, Each-from_All}}}
use Rattle.stage_laws.{specs.Sound.{has_id, IsNumbered}, proofs.{Leaders.{found_only}, Tasks.{some-same}}}
use Rattle.stage_laws.proofs.Totals.{total, total-nil, total-cons, total-append, total-push, total-map, total-flat_map, total-le, total-plus, total-none, total-filter, total-filter_le, total-times, total-by_All, one_if, count_by-is-total}

-- lists of numbers
pub total-le_each : {X : Type 0} (f g : X → ℕ) (xs : List X) → Each (λ x. f x ≤ g x) xs → total f xs ≤ total g xs
unfolding total Each
total-le_each f g [] h = omega arith
total-le_each f g (x ∷ xs) h = omega (arith, h.0, total-le_each f g xs h.1)

-- a sum of sums, the other way round
total-swap : {X Y : Type 0} (f : X → Y → ℕ) (xs : List X) (ys : List Y) → total (λ x. total (f x) ys) xs ≡ total (λ y. total (λ x. f x y) xs) ys
unfolding total
total-swap f [] ys = sym (total-none ys)
total-swap f (x ∷ xs) ys = omega (arith, total-swap f xs ys, total-plus (f x) (λ y. total (λ z. f z y) xs) ys)

-- what is on is among what a processor reaches
of_group : (Group → ℕ) → Judged → ℕ
of_group w j = w j.group

judge_pass-weighs : (w : Group → ℕ) (hw : Hardware) (before within : List Judged) (groups : List Group)
    → total (of_group w) (judge_pass hw before within groups) ≡ total (of_group w) within + total w groups
unfolding judge_pass total of_group
judge_pass-weighs w hw before within [] = omega arith
judge_pass-weighs w hw before within (g ∷ groups) =
    let j : Judged = record { group = g; standing = judge hw before within g } in
    omega (arith, judge_pass-weighs w hw before (within ++ j ∷ []) groups, total-push (of_group w) within j)

judge_passes-weigh : (w : Group → ℕ) (hw : Hardware) (before : List Judged) (ps : List (List Group))
    → total (of_group w) (judge_passes hw before ps) ≡ total (of_group w) before + total (total w) ps
unfolding judge_passes
judge_passes-weigh w hw before [] = omega (arith, total-nil (total w))
judge_passes-weigh w hw before (pass ∷ rest) =
    omega (
      arith,
      judge_passes-weigh w hw (before ++ judge_pass hw before [] pass) rest,
      total-append (of_group w) before (judge_pass hw before [] pass),
      judge_pass-weighs w hw before [] pass,
      total-nil (of_group w),
      total-cons (total w) pass rest,
    )

abbrev all_of : (Instance → ℕ) → Group → ℕ
all_of f g = total f (members_of g)

reached-weigh : (f : Instance → ℕ) (s : Stage) (cpu : CpuNo) → total f (reached s cpu) ≡ total (total (all_of f)) (passes s cpu)
reached-weigh f s cpu = total-flat_map f members_of (flat_map (λ pass. pass) (passes s cpu)) ∙ total-flat_map (all_of f) (λ pass. pass) (passes s cpu)

pub on-le : (f : Instance → ℕ) (hw : Hardware) (s : Stage) (cpu : CpuNo) → total f (on_instances hw s cpu) ≤ total f (reached s cpu)
unfolding verdicts of_group
on-le f hw s cpu =
    let w : Group → ℕ = all_of f in
    let ready : Group → List Instance = λ g. filter (λ i. is_ready i.own) (members_of g) in
    let js : List Judged = verdicts hw s cpu in
    let eligible : List (List Group) = map (filter (is_eligible hw cpu)) (passes s cpu) in
    omega (
      arith,
      total-flat_map f ready (groups_on js),
      total-le (λ g. total f (ready g)) w (λ g. total-filter_le f (λ i. is_ready i.own) (members_of g)) (groups_on js),
      total-map w (λ j. j.group) (filter (λ j. stands_on j.standing) js),
      total-filter_le (of_group w) (λ j. stands_on j.standing) js,
      judge_passes-weigh w hw [] eligible,
      total-nil (of_group w),
      total-map (total w) (filter (is_eligible hw cpu)) (passes s cpu),
      total-le (λ p. total w (filter (is_eligible hw cpu) p)) (total w) (λ p. total-filter_le w (is_eligible hw cpu) p) (passes s cpu),
      reached-weigh f s cpu,
    )

pub ready-le : (f : Instance → ℕ) (s : Stage) (cpu : CpuNo) → total f (ready_instances s cpu) ≤ total f (reached s cpu)
ready-le f s cpu = search (nat_tests, total-flat_map, total-le, total, total-filter_le)

-- what one id gets is no more than what all instances of that id get
abbrev if_id : ℕ → (Instance → ℕ) → Instance → ℕ
if_id id f j = cond (id == j.id) (f j) 0

found-le : (f : Instance → ℕ) (id : ℕ) (ys : List Instance) → of_instance f id ys ≤ total (if_id id f) ys
unfolding total
found-le f id [] = omega arith
found-le f id (y ∷ ys) = grind (arith, nat_tests, found-le f id ys)

-- an instance of the stage takes part once, and only where it is of the family
abbrev pub of_family : EventNo → (Instance → ℕ) → Instance → ℕ
of_family e f j = cond (is_of_family e j) (f j) 0

abbrev its_part : Stage → EventNo → (Instance → ℕ) → Instance → ℕ
its_part s e f j = total (λ i. if_id i.id f j) (filter (is_of_family e) (all_instances s))

at_id : (P : ℕ → Instance → Type 0) (xs : List Instance) → ((id : ℕ) → Each (P id) xs) → Each (λ i. P i.id i) xs
at_id P xs h = Each-from_All (λ i. P i.id i) xs (λ k d within. All-from_Each (P (slice_index_or xs k d).id) xs (h (slice_index_or xs k d).id) k d within)

pub if_nothing : (b : Bool) (n : ℕ) → n ≡ 0 → cond b n 0 ≡ 0
if_nothing true n h = h
if_nothing false n h = refl

-- an instance of another family has another id than each instance of this one
none_of_family : (e : EventNo) (f : Instance → ℕ) (xs : List Instance) (j : Instance) → find (has_id j.id) xs ≡ Some j → is_of_family e j ≡ false → (i : Instance)
    → (has_id j.id i ≡ true → find (has_id j.id) xs ≡ Some i) → of_family e (λ i. if_id i.id f j) i ≡ 0
none_of_family e f xs j here other i only = grind (arith, nat_tests, some-same, if_nothing)

takes_part : (s : Stage) (e : EventNo) (f : Instance → ℕ) → IsNumbered s → Each (λ j. its_part s e f j ≤ of_family e f j) (all_instances s)
takes_part s e f n =
    let xs : List Instance = all_instances s in
    let only : (id : ℕ) → Each (λ i. has_id id i ≡ true → find (has_id id) xs ≡ Some i) xs = λ id. found_only (has_id id) xs (n.once id) in
    weaker-Each (λ j. has_id j.id j ≡ true → find (has_id j.id) xs ≡ Some j) (λ j. its_part s e f j ≤ of_family e f j)
    (λ j here. elim (cases_Bool (is_of_family e j)) [
      | inl member ↦
          let once : total (one_if (has_id j.id)) xs ≤ 1 = omega (arith, count_by-is-total (has_id j.id) xs, n.once j.id) in
          rw member (omega (
            arith,
            total-filter_le (λ i. if_id i.id f j) (is_of_family e) xs,
            total-times (has_id j.id) (f j) xs,
            mul-le-mul_right (f j) once,
          ))
      | inr other ↦ rw other (omega (
        arith,
        total-filter (λ i. if_id i.id f j) (is_of_family e) xs,
        total-by_All (of_family e (λ i. if_id i.id f j)) (λ i. has_id j.id i ≡ true → find (has_id j.id) xs ≡ Some i)
            (none_of_family e f xs j (here (eq-eqb j.id j.id refl)) other) xs
            (All-from_Each (λ i. has_id j.id i ≡ true → find (has_id j.id) xs ≡ Some i) xs (only j.id)),
      ))
    ]) xs (at_id (λ id i. has_id id i ≡ true → find (has_id id) xs ≡ Some i) xs only)

-- What an event gets with its copies, of some list: what those of the list give that are of its family.
pub family_gets : (s : Stage) (e : EventNo) (f : Instance → ℕ) (ys : List Instance) → ((P : Instance → Type 0) → Each P (all_instances s) → Each P ys) → IsNumbered s
    → total (λ i. of_instance f i.id ys) (filter (is_of_family e) (all_instances s)) ≤ total (of_family e f) ys
family_gets s e f ys among n =
    let xs : List Instance = filter (is_of_family e) (all_instances s) in
    omega (
      arith,
      total-le (λ i. of_instance f i.id ys) (λ i. total (if_id i.id f) ys) (λ i. found-le f i.id ys) xs,
      total-swap (λ i. if_id i.id f) xs ys,
      total-le_each (its_part s e f) (of_family e f) ys (among (λ j. its_part s e f j ≤ of_family e f j) (takes_part s e f n)),
    )
