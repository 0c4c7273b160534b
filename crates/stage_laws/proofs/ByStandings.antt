-- A settled processor has no refused pinned group, and settling goes by standings.
use Rattle.std.specs.Prelude.{◌≡◌, ℕ, ◌+◌, ◌<◌, ◌≤◌, ◌==◌, ◌||◌, Bool, true, false, List, [], ◌∷◌, ◌++◌, map, filter, flat_map, count_by, sum_by, Option, Some, None, slice_index_or, slice_set, drop}
use Rattle.std.{specs.List.{list_any}, proofs.Common.{arith, refl, sym, ap, ◌∙◌, inl, inr, append_assoc, append-nil}}
use Rattle.std.proofs.lemmas.{Bool.{cases_Bool, false≢true, or_parts, or_from, eq-eqb}, List.{Folds.{list_any-append}, Sums.{sum_by-cons}}}
use Rattle.std.proofs.lemmas.Grind.{flat_map-append}
use Rattle.perf_base.specs.{declared.{numbers.{CpuNo.{CpuNo}, TaskNo.{TaskNo}}, standing.Standing.{Standing}}, Standings.{stands_refused}}
use Rattle.perf_base.specs.declared.standing.Context.TheVariants as context
use Rattle.perf_base.specs.declared.standing.Standing.TheVariants as standing
use Rattle.stage_spec.specs.Hardware.{Hardware}
use Rattle.stage_spec.specs.Stage.{Stage, Group, members_of, Lists, lists_of, no_groups, groups_in, members, place_of, task_on}
use Rattle.stage_spec.specs.Effective.{is_ready}
use Rattle.stage_spec.specs.Verdict.{Judged, is_eligible, judge, judge_pass, judge_passes, passes, task_lists, standing_among, verdicts}
use Rattle.stage_spec.specs.Settle.{failed, settle_pass, settle_lists, settle_task, own_verdicts, settle, IsSettled, pinned_verdicts}
use Rattle.stage_spec.proofs.Settling.{judged, filter-yes, filter-no, settle_pass-here, settle_pass-away}
use Rattle.stage_spec.proofs.Settled.{own_settled, IsSettledFrom, is_settled_from, change_context-none, lists_of-other, place_of-cpu}
use Rattle.stage_laws.specs.{Sound.{has_id}, Standings.{briefs, SettledLaw, StandingsLaw, SameStandingsLaw, fail_lists}}
use Rattle.stage_laws.proofs.{Briefs.{by_briefs, refused_by_briefs, same_briefs}, Totals.{as_number}}
use Rattle.stage_laws.proofs.Counts.{count-cons, count-append, count-filter, one_place, two_places, three_places, map-at_one, map-at_two}

-- what a pass adds to what was judged within it
unfoldable pub pass_tail : Hardware → (before within : List Judged) → List Group → List Judged
pass_tail hw before within [] = []
pass_tail hw before within (g ∷ groups) = judged g (judge hw before within g) ∷ pass_tail hw before (within ++ judged g (judge hw before within g) ∷ []) groups

pub pass-is : (hw : Hardware) (before within : List Judged) (groups : List Group) → judge_pass hw before within groups ≡ within ++ pass_tail hw before within groups
unfolding judge_pass pass_tail
pass-is hw before within [] = sym (append-nil within)
pass-is hw before within (g ∷ groups) = search (judged, append_assoc, pass-is hw before (within ++ judged g (judge hw before within g) ∷ []) groups)

abbrev pub refused_among : List Judged → Bool
refused_among js = list_any (λ j. stands_refused j.standing) js

-- of a pass that settling leaves, none is refused, and the other way round
unrefused-failed : (v : Standing) (g : Group) → stands_refused v ≡ false → failed v g ≡ g
unrefused-failed standing.Out g h = refl
unrefused-failed standing.On g h = refl
unrefused-failed (standing.Refused c) g h = absurd (false≢true (sym h))

ready-leader : (hw : Hardware) (cpu : CpuNo) (g : Group) → is_eligible hw cpu g ≡ true → is_ready g.leader.own ≡ true
ready-leader hw cpu g h = elim (cases_Bool (is_ready g.leader.own)) [ inl e ↦ e | inr e ↦ absurd (false≢true (sym (rw e refl) ∙ h)) ]

failed-same : (v : Standing) (g : Group) → is_ready g.leader.own ≡ true → failed v g ≡ g → stands_refused v ≡ false
failed-same standing.Out g h same = refl
failed-same standing.On g h same = refl
failed-same (standing.Refused c) g h same = absurd (false≢true (ap (λ x. is_ready x.leader.own) same ∙ h))

pub pass_unrefused : (hw : Hardware) (cpu : CpuNo) (before within : List Judged) (groups : List Group)
    → refused_among (pass_tail hw before within (filter (is_eligible hw cpu) groups)) ≡ false → settle_pass hw cpu before within groups ≡ groups
unfolding settle_pass pass_tail
pass_unrefused hw cpu before within [] h = refl
pass_unrefused hw cpu before within (g ∷ groups) h =
    let v : Standing = judge hw before within g in
    let more : List Judged = within ++ judged g v ∷ [] in
    elim (cases_Bool (is_eligible hw cpu g)) [
      | inr away ↦ settle_pass-away hw cpu before within g groups away ∙ ap (λ gs. g ∷ gs) (pass_unrefused hw cpu before within groups
          (ap (λ gs. refused_among (pass_tail hw before within gs)) (sym (filter-no (is_eligible hw cpu) g groups away)) ∙ h))
      | inl here ↦
          let both : (stands_refused v ≡ false) × (refused_among (pass_tail hw before more (filter (is_eligible hw cpu) groups)) ≡ false) =
          grind (arith, or_parts, filter-yes) in
          settle_pass-here hw cpu before within g groups here
          ∙ (rw (unrefused-failed v g both.0) (ap (λ gs. g ∷ gs) (pass_unrefused hw cpu before more groups both.1)))
    ]

pass_settled : (hw : Hardware) (cpu : CpuNo) (before within : List Judged) (groups : List Group)
    → settle_pass hw cpu before within groups ≡ groups → refused_among (pass_tail hw before within (filter (is_eligible hw cpu) groups)) ≡ false
unfolding settle_pass pass_tail
pass_settled hw cpu before within [] h = refl
pass_settled hw cpu before within (g ∷ groups) h =
    let v : Standing = judge hw before within g in
    let more : List Judged = within ++ judged g v ∷ [] in
    elim (cases_Bool (is_eligible hw cpu g)) [
      | inr away ↦ ap (λ gs. refused_among (pass_tail hw before within gs)) (filter-no (is_eligible hw cpu) g groups away)
          ∙ pass_settled hw cpu before within groups (ap (drop 1) (sym (settle_pass-away hw cpu before within g groups away) ∙ h))
      | inl here ↦
          let same : failed v g ∷ settle_pass hw cpu before more groups ≡ g ∷ groups = sym (settle_pass-here hw cpu before within g groups here) ∙ h in
          ap (λ gs. refused_among (pass_tail hw before within gs)) (filter-yes (is_eligible hw cpu) g groups here)
          ∙ or_from (stands_refused v) (refused_among (pass_tail hw before more (filter (is_eligible hw cpu) groups)))
          (failed-same v g (ready-leader hw cpu g here) (ap (λ gs. slice_index_or gs 0 g) same)) (pass_settled hw cpu before more groups (ap (drop 1) same))
    ]

-- the first two passes
abbrev first_tail : Hardware → CpuNo → List Judged → List Group → List Judged
first_tail hw cpu before groups = pass_tail hw before [] (filter (is_eligible hw cpu) groups)

pub pinned-are : (hw : Hardware) (s : Stage) (cpu : CpuNo) → pinned_verdicts hw s cpu
    ≡ first_tail hw cpu [] (lists_of s (context.Processor cpu)).pinned ++ first_tail hw cpu (own_verdicts hw s cpu) (task_lists s (task_on s cpu)).pinned
unfolding judge_passes
pinned-are hw s cpu = grind (arith, pass-is)

refused-are : (hw : Hardware) (s : Stage) (cpu : CpuNo) → refused_among (pinned_verdicts hw s cpu)
    ≡ (refused_among (first_tail hw cpu [] (lists_of s (context.Processor cpu)).pinned) || refused_among (first_tail hw cpu (own_verdicts hw s cpu) (task_lists s (task_on s cpu)).pinned))
refused-are hw s cpu = grind (arith, pinned-are, list_any-append)

task-unrefused : (hw : Hardware) (cpu : CpuNo) (before : List Judged) (to : Option TaskNo) (s : Stage)
    → refused_among (first_tail hw cpu before (task_lists s to).pinned) ≡ false → settle_task hw cpu before to s ≡ s
task-unrefused hw cpu before None s h = refl
task-unrefused hw cpu before (Some task) s h = search (change_context-none, pass_unrefused)

unrefused-settled : (hw : Hardware) (cpu : CpuNo) (s : Stage) → refused_among (pinned_verdicts hw s cpu) ≡ false → IsSettled hw cpu s
unfolding settle
unrefused-settled hw cpu s h =
    let both : (refused_among (first_tail hw cpu [] (lists_of s (context.Processor cpu)).pinned) ≡ false)
    × (refused_among (first_tail hw cpu (own_verdicts hw s cpu) (task_lists s (task_on s cpu)).pinned) ≡ false) =
    or_parts (refused_among (first_tail hw cpu [] (lists_of s (context.Processor cpu)).pinned))
    (refused_among (first_tail hw cpu (own_verdicts hw s cpu) (task_lists s (task_on s cpu)).pinned)) (sym (refused-are hw s cpu) ∙ h) in
    ap (settle_task hw cpu (own_verdicts hw s cpu) (task_on s cpu)) (change_context-none (context.Processor cpu) (settle_lists hw cpu []) s
    (ap (λ pinned. record (lists_of s (context.Processor cpu)) { pinned = pinned }) (pass_unrefused hw cpu [] [] (lists_of s (context.Processor cpu)).pinned both.0)))
    ∙ task-unrefused hw cpu (own_verdicts hw s cpu) (task_on s cpu) s both.1

is_unrefused : (hw : Hardware) (cpu : CpuNo) (s : Stage) → cpu.0 < 8 → IsSettled hw cpu s → refused_among (pinned_verdicts hw s cpu) ≡ false
is_unrefused hw cpu s low h = grind (arith, IsSettledFrom, is_settled_from, refused-are, or_from, pass_settled)

pub settled_unrefused : SettledLaw
settled_unrefused hw cpu s low = (is_unrefused hw cpu s low, unrefused-settled hw cpu s)

-- whether a group has a leader of some id, and what was judged of such
abbrev pub is_led_by : ℕ → Group → Bool
is_led_by id g = g.leader.id == id

abbrev pub is_of_led : ℕ → Judged → Bool
is_of_led id j = is_led_by id j.group

tail-counts : (hw : Hardware) (id : ℕ) (before within : List Judged) (groups : List Group) → count_by (is_of_led id) (pass_tail hw before within groups) ≡ count_by (is_led_by id) groups
unfolding pass_tail
tail-counts hw id before within [] = refl
tail-counts hw id before within (g ∷ groups) =
    let j : Judged = judged g (judge hw before within g) in
    search (count-cons, j, as_number, tail-counts hw id before (within ++ j ∷ []) groups)

-- the standing of a group that is not among the judged, and of one that is there once
abbrev either_standing : Bool → Standing → Standing → Standing
either_standing b here there = elim b [ true ↦ here | false ↦ there ]

not_among : (js : List Judged) (g : Group) → count_by (is_of_led g.leader.id) js ≡ 0 → standing_among js g ≡ standing.Out
not_among [] g h = refl
not_among (j ∷ js) g h = elim (cases_Bool (is_of_led g.leader.id j)) [
  | inl e ↦ absurd (omega (arith, h, count-cons (is_of_led g.leader.id) j js, ap as_number e))
  | inr e ↦ ap (λ b. either_standing b j.standing (standing_among js g)) e ∙ (not_among js g (omega (arith, h, count-cons (is_of_led g.leader.id) j js)))
]

first_among : (pre rest : List Judged) (g : Group) (v : Standing) → count_by (is_of_led g.leader.id) pre ≡ 0 → standing_among (pre ++ judged g v ∷ rest) g ≡ v
first_among [] rest g v h = ap (λ b. either_standing b v (standing_among rest g)) (eq-eqb g.leader.id g.leader.id refl)
first_among (j ∷ js) rest g v h = elim (cases_Bool (is_of_led g.leader.id j)) [
  | inl e ↦ absurd (omega (arith, h, count-cons (is_of_led g.leader.id) j js, ap as_number e))
  | inr e ↦ ap (λ b. either_standing b j.standing (standing_among (js ++ judged g v ∷ rest) g)) e ∙ (first_among js rest g v (omega (arith, h, count-cons (is_of_led g.leader.id) j js)))
]

-- settling a pass by the standings of all that was judged
by-standings : (hw : Hardware) (cpu : CpuNo) (all before pre within post : List Judged) (groups : List Group)
    → all ≡ pre ++ (pass_tail hw before within (filter (is_eligible hw cpu) groups) ++ post)
    → ((id : ℕ) → count_by (is_of_led id) pre + (count_by (is_led_by id) groups + count_by (is_of_led id) post) ≤ 1)
    → settle_pass hw cpu before within groups ≡ map (λ g. failed (standing_among all g) g) groups
unfolding settle_pass pass_tail
by-standings hw cpu all before pre within post [] is once = refl
by-standings hw cpu all before pre within post (g ∷ groups) is once =
    let v : Standing = judge hw before within g in
    let more : List Judged = within ++ judged g v ∷ [] in
    let id : ℕ = g.leader.id in
    let here_once : count_by (is_led_by id) (g ∷ groups) ≡ 1 + count_by (is_led_by id) groups =
    count-cons (is_led_by id) g groups ∙ ap (λ b. as_number b + count_by (is_led_by id) groups) (eq-eqb id id refl) in
    elim (cases_Bool (is_eligible hw cpu g)) [
      | inr away ↦
          let left : List Judged = pass_tail hw before within (filter (is_eligible hw cpu) groups) in
          let is_now : all ≡ pre ++ (left ++ post) = is ∙ ap (λ gs. pre ++ (pass_tail hw before within gs ++ post)) (filter-no (is_eligible hw cpu) g groups away) in
          let out : standing_among all g ≡ standing.Out = not_among all g (ap (count_by (is_of_led id)) is_now ∙ omega (
            arith,
            once id,
            here_once,
            count-append (is_of_led id) pre (left ++ post),
            count-append (is_of_led id) left post,
            tail-counts hw id before within (filter (is_eligible hw cpu) groups),
            count-filter (is_led_by id) (is_eligible hw cpu) groups,
          )) in
          settle_pass-away hw cpu before within g groups away ∙ (rw out (ap (λ gs. g ∷ gs) (by-standings hw cpu all before pre within post groups is_now
          (λ n. omega (arith, once n, count-cons (is_led_by n) g groups)))))
      | inl here ↦
          let left : List Judged = pass_tail hw before more (filter (is_eligible hw cpu) groups) in
          let is_now : all ≡ pre ++ judged g v ∷ (left ++ post) = is ∙ ap (λ gs. pre ++ (pass_tail hw before within gs ++ post)) (filter-yes (is_eligible hw cpu) g groups here) in
          let found : standing_among all g ≡ v = ap (λ js. standing_among js g) is_now ∙ first_among pre (left ++ post) g v (omega (arith, once id, here_once)) in
          settle_pass-here hw cpu before within g groups here
          ∙ (rw found (ap (λ gs. failed v g ∷ gs) (by-standings hw cpu all before (pre ++ judged g v ∷ []) more post groups
          (is_now ∙ sym (append_assoc pre (judged g v ∷ []) (left ++ post)))
          (λ n. omega (arith, once n, count-cons (is_led_by n) g groups, count-append (is_of_led n) pre (judged g v ∷ []), count-cons (is_of_led n) (judged g v) [])))))
    ]

-- how many groups of a context have a leader of some id
abbrev pub led : ℕ → Lists → ℕ
led id l = count_by (is_led_by id) (groups_in l)

led-members : (id : ℕ) (groups : List Group) → count_by (is_led_by id) groups ≤ count_by (has_id id) (members groups)
led-members id [] = omega arith
led-members id (g ∷ groups) = omega (arith, count-cons, count-append, led-members id groups)

pub led-sum : (id : ℕ) (contexts : List Lists) → sum_by (led id) contexts ≤ count_by (has_id id) (members (flat_map groups_in contexts))
led-sum id [] = omega arith
led-sum id (l ∷ ls) =
    let all : count_by (has_id id) (members (groups_in l ++ flat_map groups_in ls)) ≡ count_by (has_id id) (members (groups_in l)) + count_by (has_id id) (members (flat_map groups_in ls)) =
    ap (count_by (has_id id)) (flat_map-append members_of (groups_in l) (flat_map groups_in ls)) ∙ count-append (has_id id) (members (groups_in l)) (members (flat_map groups_in ls)) in
    omega (arith, sum_by-cons (led id) l ls, led-sum id ls, led-members id (groups_in l), all)

-- a group that no verdict speaks of stays
failed-away : (all : List Judged) (groups : List Group) → ((id : ℕ) → count_by (is_of_led id) all + count_by (is_led_by id) groups ≤ 1)
    → map (λ g. failed (standing_among all g) g) groups ≡ groups
failed-away all [] once = refl
failed-away all (g ∷ groups) once =
    let id : ℕ = g.leader.id in
    let here : count_by (is_led_by id) (g ∷ groups) ≡ 1 + count_by (is_led_by id) groups =
    count-cons (is_led_by id) g groups ∙ ap (λ b. as_number b + count_by (is_led_by id) groups) (eq-eqb id id refl) in
    rw (not_among all g (omega (arith, once id, here))) (ap (λ gs. g ∷ gs) (failed-away all groups (λ n. omega (arith, once n, count-cons (is_led_by n) g groups))))

-- the contexts of a stage, settled by standings
record IsBy (hw : Hardware) (cpu : CpuNo) (s : Stage) (before all : List Judged) (to : Option TaskNo) : Type 0 where
  pub own : settle_lists hw cpu [] (lists_of s (context.Processor cpu)) ≡ fail_lists all (lists_of s (context.Processor cpu))
  pub task : settle_lists hw cpu before (task_lists s to) ≡ fail_lists all (task_lists s to)
  pub others : (l : Lists) → ((id : ℕ) → led id (lists_of s (context.Processor cpu)) + led id (task_lists s to) + led id l ≤ 1) → fail_lists all l ≡ l

settled-contexts : (hw : Hardware) (cpu : CpuNo) (s : Stage) (before all : List Judged) (to : Option TaskNo) → cpu.0 < 8 → ((id : ℕ) → sum_by (led id) s.contexts ≤ 1)
    → IsBy hw cpu s before all to → settle_task hw cpu before to (own_settled hw cpu s) ≡ record s { contexts = map (fail_lists all) s.contexts }
settled-contexts hw cpu s before all None low once h =
    let i : ℕ = place_of (context.Processor cpu) in
    ap (λ l. record s { contexts = slice_set s.contexts i l }) h.own
    ∙ ap (λ contexts. record s { contexts = contexts }) (map-at_one (fail_lists all) no_groups refl s.contexts i
    (λ k apart. h.others (slice_index_or s.contexts k no_groups) (λ id. omega (arith, once id, two_places (led id) no_groups refl s.contexts i k (λ e. apart (sym e))))))
settled-contexts hw cpu s before all (Some task) low once h =
    let i : ℕ = place_of (context.Processor cpu) in
    let j : ℕ = 8 + task.0 in
    let at_cpu : place_of (context.Processor cpu) ≡ cpu.0 = place_of-cpu cpu low in
    let apart : i ≡ j → ⊥ = λ e. omega (arith, e, at_cpu) in
    let back : j ≡ i → ⊥ = λ e. omega (arith, e, at_cpu) in
    let there : lists_of (own_settled hw cpu s) (context.Task task) ≡ lists_of s (context.Task task) = search (lists_of-other) in
    ap (λ l. record s { contexts = slice_set (own_settled hw cpu s).contexts j (settle_lists hw cpu before l) }) there
    ∙ (ap (λ l. record s { contexts = slice_set (own_settled hw cpu s).contexts j l }) h.task
    ∙ (ap (λ l. record s { contexts = slice_set (slice_set s.contexts i l) j (fail_lists all (lists_of s (context.Task task))) }) h.own
    ∙ ap (λ contexts. record s { contexts = contexts }) (map-at_two (fail_lists all) no_groups refl s.contexts i j apart
    (λ k one two. h.others (slice_index_or s.contexts k no_groups) (λ id. omega (arith, once id, three_places (led id) no_groups refl s.contexts i j k apart (λ e. one (sym e)) (λ e. two (sym e))))))))

-- the four passes of what is judged
joined-four : (a b c d : List Judged) → ((a ++ b) ++ c) ++ d ≡ a ++ (b ++ (c ++ d))
joined-four a b c d = append_assoc (a ++ b) c d ∙ append_assoc a b (c ++ d)

verdicts-are : (hw : Hardware) (a b c d : List Group)
    → let one = judge_pass hw [] [] a in let two = one ++ judge_pass hw one [] b in let three = two ++ judge_pass hw two [] c in
    judge_passes hw [] (a ∷ b ∷ c ∷ d ∷ []) ≡ pass_tail hw [] [] a ++ (pass_tail hw one [] b ++ (pass_tail hw two [] c ++ pass_tail hw three [] d))
unfolding judge_passes
verdicts-are hw a b c d = grind (arith, joined-four, pass-is)

two-led : (s : Stage) (cpu : CpuNo) (to : Option TaskNo) (id : ℕ) → cpu.0 < 8 → sum_by (led id) s.contexts ≤ 1 → led id (lists_of s (context.Processor cpu)) + led id (task_lists s to) ≤ 1
two-led s cpu None id low once = omega (arith, once, one_place (led id) no_groups refl s.contexts (place_of (context.Processor cpu)))
two-led s cpu (Some task) id low once = grind (arith, place_of-cpu, two_places)

is_by : (hw : Hardware) (cpu : CpuNo) (s : Stage) → cpu.0 < 8 → ((id : ℕ) → sum_by (led id) s.contexts ≤ 1)
    → IsBy hw cpu s (own_verdicts hw s cpu) (verdicts hw s cpu) (task_on s cpu)
unfolding verdicts
is_by hw cpu s low once =
    let test : Group → Bool = is_eligible hw cpu in
    let own : Lists = lists_of s (context.Processor cpu) in
    let task : Lists = task_lists s (task_on s cpu) in
    let one : List Judged = judge_pass hw [] [] (filter test own.pinned) in
    let two : List Judged = one ++ judge_pass hw one [] (filter test task.pinned) in
    let three : List Judged = two ++ judge_pass hw two [] (filter test own.flexible) in
    let a : List Judged = pass_tail hw [] [] (filter test own.pinned) in
    let b : List Judged = pass_tail hw one [] (filter test task.pinned) in
    let c : List Judged = pass_tail hw two [] (filter test own.flexible) in
    let d : List Judged = pass_tail hw three [] (filter test task.flexible) in
    let all : List Judged = judge_passes hw [] (map (filter test) (passes s cpu)) in
    let is : all ≡ a ++ (b ++ (c ++ d)) = verdicts-are hw (filter test own.pinned) (filter test task.pinned) (filter test own.flexible) (filter test task.flexible) in
    let less : (id : ℕ) (before : List Judged) (gs : List Group) → count_by (is_of_led id) (pass_tail hw before [] (filter test gs)) ≤ count_by (is_led_by id) gs =
    λ id before gs. omega (arith, tail-counts hw id before [] (filter test gs), count-filter (is_led_by id) test gs) in
    let own_led : (id : ℕ) → led id own ≡ count_by (is_led_by id) own.pinned + count_by (is_led_by id) own.flexible = λ id. count-append (is_led_by id) own.pinned own.flexible in
    let task_led : (id : ℕ) → led id task ≡ count_by (is_led_by id) task.pinned + count_by (is_led_by id) task.flexible = λ id. count-append (is_led_by id) task.pinned task.flexible in
    let last : (id : ℕ) → count_by (is_of_led id) (c ++ d) ≤ count_by (is_led_by id) own.flexible + count_by (is_led_by id) task.flexible =
    λ id. omega (arith, count-append (is_of_led id) c d, less id two own.flexible, less id three task.flexible) in
    let later : (id : ℕ) → count_by (is_of_led id) (b ++ (c ++ d)) ≤ count_by (is_led_by id) task.pinned + (count_by (is_led_by id) own.flexible + count_by (is_led_by id) task.flexible) =
    λ id. omega (arith, count-append (is_of_led id) b (c ++ d), last id, less id one task.pinned) in
    let whole : (id : ℕ) → count_by (is_of_led id) all ≤ led id own + led id task =
    λ id. rw is (omega (arith, count-append (is_of_led id) a (b ++ (c ++ d)), later id, less id [] own.pinned, own_led id, task_led id)) in
    let both : (id : ℕ) → led id own + led id task ≤ 1 = λ id. two-led s cpu (task_on s cpu) id low (once id) in
    record {
      own = ap (λ pinned. record own { pinned = pinned }) (by-standings hw cpu all [] [] [] (b ++ (c ++ d)) own.pinned is
          (λ id. omega (arith, both id, own_led id, task_led id, later id)));
      task = ap (λ pinned. record task { pinned = pinned }) (by-standings hw cpu all one a [] (c ++ d) task.pinned is
          (λ id. omega (arith, both id, own_led id, task_led id, last id, less id [] own.pinned)));
      others = λ l h. ap (λ pinned. record l { pinned = pinned }) (failed-away all l.pinned (λ id. omega (arith, h id, whole id, count-append (is_led_by id) l.pinned l.flexible)));
    }

pub settles_by_standings : StandingsLaw
unfolding settle
settles_by_standings hw cpu s numbered low =
    let once : (id : ℕ) → sum_by (led id) s.contexts ≤ 1 = λ id. omega (arith, led-sum id s.contexts, numbered.once id) in
    settled-contexts hw cpu s (own_verdicts hw s cpu) (verdicts hw s cpu) (task_on s cpu) low once (is_by hw cpu s low once)

-- what is settled stays so where the briefs stay
pub settled_by_briefs : (hw : Hardware) (cpu : CpuNo) (s t : Stage) → cpu.0 < 8 → briefs hw t cpu ≡ briefs hw s cpu → IsSettled hw cpu s → IsSettled hw cpu t
settled_by_briefs hw cpu s t low same h = (settled_unrefused hw cpu t low).1 (refused_by_briefs hw cpu t s same ∙ (settled_unrefused hw cpu s low).0 h)

pub same_standings : SameStandingsLaw
same_standings hw cpu s f k = search (same_briefs, by_briefs, settled_by_briefs)
