-- The laws of settling, of a processor.
use Rattle.std.specs.Prelude.{◌≡◌, ◌+◌, ◌<◌, nat_lt, Bool, true, List, [], ◌∷◌, ◌++◌, length, map, filter, drop, Option, Some, None, slice_index_or}
use Rattle.std.proofs.Common.{arith, refl, sym, ap, ◌∙◌, append_assoc, get_or, set, get_or-set_same, get_or-set_other}
use Rattle.std.proofs.lemmas.{Bool.{cases_lt, Decides.{nat_tests}}, List.{set-get_or, get_or_past, Elements.{filter-append}}}
use Rattle.std.proofs.Math.Seq.{drop-append_seam, set_out}
use Rattle.perf_base.specs.{declared.{numbers.{CpuNo.{CpuNo}, TaskNo.{TaskNo}}, standing.Context.{Context}}, Standings.{stands_on}}
use Rattle.perf_base.specs.declared.standing.Context.TheVariants as context
use Rattle.stage_spec.specs.{Hardware.{Hardware}, Stage.{Stage, Group, Lists, lists_of, no_groups, place_of, task_on, change_context}}
use Rattle.stage_spec.specs.Verdict.{Judged, is_eligible, groups_on, judge_pass, judge_passes, passes, task_lists, verdicts}
use Rattle.stage_spec.specs.Settle.{settle_pass, settle_lists, settle_task, own_verdicts, settle, SettleLaw, SettledVerdictsLaw, VerdictsLaw}
use Rattle.stage_spec.proofs.Settling.{kept, going, groups_on-append, groups_on-kept, judge_pass-kept, judge_pass-same, eligible-settled, settle_pass-again}

-- four passes, of which the first two are settled
abbrev pub four : List Group → List Group → List Group → List Group → List (List Group)
four a b c d = a ∷ b ∷ c ∷ d ∷ []

passes-settled : (hw : Hardware) (a b c d : List Group)
    → judge_passes hw [] (four (going hw [] [] a) (going hw (judge_pass hw [] [] a) [] b) c d)
    ≡ kept (judge_passes hw [] (a ∷ b ∷ [])) ++ drop (length (judge_passes hw [] (a ∷ b ∷ []))) (judge_passes hw [] (four a b c d))
unfolding judge_passes
passes-settled hw a b c d =
    let one : List Judged = judge_pass hw [] [] a in
    let two : List Judged = judge_pass hw one [] b in
    let three : List Judged = judge_pass hw (one ++ two) [] c in
    let last : List Judged = judge_pass hw ((one ++ two) ++ three) [] d in
    let same_one : groups_on one ≡ groups_on (kept one) = sym (groups_on-kept one) in
    let same_two : groups_on (one ++ two) ≡ groups_on (kept one ++ kept two) = grind (arith, nat_tests, groups_on-append, groups_on-kept, kept) in
    let same_three : groups_on ((one ++ two) ++ three) ≡ groups_on ((kept one ++ kept two) ++ three) =
    groups_on-append (one ++ two) three ∙ (ap (λ gs. gs ++ groups_on three) same_two ∙ sym (groups_on-append (kept one ++ kept two) three)) in
    let first : judge_pass hw [] [] (going hw [] [] a) ≡ kept one = judge_pass-kept hw [] [] [] a refl in
    let second : judge_pass hw (kept one) [] (going hw one [] b) ≡ kept two = judge_pass-kept hw one (kept one) [] b same_one in
    let third : judge_pass hw (kept one ++ kept two) [] c ≡ three = judge_pass-same hw (one ++ two) (kept one ++ kept two) [] c same_two in
    let fourth : judge_pass hw ((kept one ++ kept two) ++ three) [] d ≡ last = judge_pass-same hw ((one ++ two) ++ three) ((kept one ++ kept two) ++ three) [] d same_three in
    let left : judge_passes hw [] (four (going hw [] [] a) (going hw one [] b) c d) ≡ ((kept one ++ kept two) ++ three) ++ last =
    rw (first, second, third, fourth) refl in
    let rest : drop (length (one ++ two)) (((one ++ two) ++ three) ++ last) ≡ three ++ last =
    ap (drop (length (one ++ two))) (append_assoc (one ++ two) three last) ∙ drop-append_seam (one ++ two) (three ++ last) in
    let both : kept (one ++ two) ≡ kept one ++ kept two = filter-append (λ j. stands_on j.standing) one two in
    left ∙ (append_assoc (kept one ++ kept two) three last ∙ (rw (both, rest) refl))

-- the groups of a context that is changed, and those of another
pub lists_of-same : (c : Context) (f : Lists → Lists) (s : Stage) → f no_groups ≡ no_groups → lists_of (change_context c f s) c ≡ f (lists_of s c)
lists_of-same c f s none = grind (arith, nat_tests, cases_lt, get_or-set_same, get_or_past, set, set_out, get_or)

pub place_of-cpu : (cpu : CpuNo) → cpu.0 < 8 → place_of (context.Processor cpu) ≡ cpu.0
place_of-cpu cpu low = let small : nat_lt cpu.0 8 ≡ true = grind (arith, nat_tests, low) in rw small refl

pub lists_of-other : (c d : Context) (f : Lists → Lists) (s : Stage) → (place_of d ≡ place_of c → ⊥) → lists_of (change_context c f s) d ≡ lists_of s d
lists_of-other c d f s apart = get_or-set_other s.contexts (place_of c) (place_of d) (f (lists_of s c)) no_groups apart

pub change_context-none : (c : Context) (f : Lists → Lists) (s : Stage) → f (lists_of s c) ≡ lists_of s c → change_context c f s ≡ s
change_context-none c f s same = grind (arith, nat_tests, set, set-get_or)

pub no_groups-settled : (hw : Hardware) (cpu : CpuNo) (before : List Judged) → settle_lists hw cpu before no_groups ≡ no_groups
unfolding settle_pass
no_groups-settled hw cpu before = refl

-- the stage with a processor's own pass settled
abbrev pub own_settled : Hardware → CpuNo → Stage → Stage
own_settled hw cpu s = change_context (context.Processor cpu) (settle_lists hw cpu []) s

pub record IsSettledFrom (hw : Hardware) (cpu : CpuNo) (s : Stage) (before : List Judged) (to : Option TaskNo) (t : Stage) : Type 0 where
  pub running : t.running ≡ s.running
  pub own : lists_of t (context.Processor cpu) ≡ settle_lists hw cpu [] (lists_of s (context.Processor cpu))
  pub task : task_lists t to ≡ settle_lists hw cpu before (task_lists s to)

settled-from : (hw : Hardware) (cpu : CpuNo) (s : Stage) (before : List Judged) (to : Option TaskNo) → cpu.0 < 8 → IsSettledFrom hw cpu s before to (settle_task hw cpu before to (own_settled hw cpu s))
settled-from hw cpu s before None low = search (nat_tests, lists_of-same, no_groups-settled)
settled-from hw cpu s before (Some task) low =
    let at_cpu : place_of (context.Processor cpu) ≡ cpu.0 = place_of-cpu cpu low in
    let apart : place_of (context.Processor cpu) ≡ 8 + task.0 → ⊥ = λ e. omega (arith, e, at_cpu) in
    let back : 8 + task.0 ≡ place_of (context.Processor cpu) → ⊥ = λ e. omega (arith, e, at_cpu) in
    record {
      running = refl;
      own = lists_of-other (context.Task task) (context.Processor cpu) (settle_lists hw cpu before) (own_settled hw cpu s) apart
          ∙ lists_of-same (context.Processor cpu) (settle_lists hw cpu []) s (no_groups-settled hw cpu []);
      task = lists_of-same (context.Task task) (settle_lists hw cpu before) (own_settled hw cpu s) (no_groups-settled hw cpu before)
          ∙ ap (settle_lists hw cpu before) (lists_of-other (context.Processor cpu) (context.Task task) (settle_lists hw cpu []) s back);
    }

pub is_settled_from : (hw : Hardware) (cpu : CpuNo) (s : Stage) → cpu.0 < 8 → IsSettledFrom hw cpu s (own_verdicts hw s cpu) (task_on s cpu) (settle hw cpu s)
unfolding settle
is_settled_from hw cpu s low = settled-from hw cpu s (own_verdicts hw s cpu) (task_on s cpu) low

passes-are : (hw : Hardware) (cpu : CpuNo) (s : Stage) → cpu.0 < 8
    → passes (settle hw cpu s) cpu
    ≡ four (settle_pass hw cpu [] [] (lists_of s (context.Processor cpu)).pinned) (settle_pass hw cpu (own_verdicts hw s cpu) [] (task_lists s (task_on s cpu)).pinned)
    (lists_of s (context.Processor cpu)).flexible (task_lists s (task_on s cpu)).flexible
passes-are hw cpu s low = grind (arith, nat_tests, is_settled_from)

pub settled_verdicts : SettledVerdictsLaw
unfolding verdicts
settled_verdicts hw cpu s low =
    let test : Group → Bool = is_eligible hw cpu in
    let own : Lists = lists_of s (context.Processor cpu) in
    let task : Lists = task_lists s (task_on s cpu) in
    let one : List Judged = own_verdicts hw s cpu in
    let first : filter test (settle_pass hw cpu [] [] own.pinned) ≡ going hw [] [] (filter test own.pinned) = eligible-settled hw cpu [] [] own.pinned in
    let second : filter test (settle_pass hw cpu one [] task.pinned) ≡ going hw one [] (filter test task.pinned) = eligible-settled hw cpu one [] task.pinned in
    let all : List (List Group) → List Judged = λ ps. judge_passes hw [] (map (filter test) ps) in
    let now : List Group → List Group → List Judged = λ a b. judge_passes hw [] (four a b (filter test own.flexible) (filter test task.flexible)) in
    grind (arith, nat_tests, all, passes-are, now, test, one, first, going, second, passes-settled)

-- the task's pass, settled, stays when it is settled again
task-again : (hw : Hardware) (cpu : CpuNo) (before others : List Judged) (to : Option TaskNo) (s t : Stage) → groups_on before ≡ groups_on others
    → task_lists t to ≡ settle_lists hw cpu before (task_lists s to) → settle_task hw cpu others to t ≡ t
task-again hw cpu before others None s t same h = refl
task-again hw cpu before others (Some task) s t same h =
    change_context-none (context.Task task) (settle_lists hw cpu others) t
    (rw h (ap (λ pinned. record { pinned = pinned; flexible = (task_lists s (Some task)).flexible })
    (settle_pass-again hw cpu before others [] (task_lists s (Some task)).pinned same)))

pub settles_once : SettleLaw
unfolding settle
settles_once hw cpu s low =
    let t : Stage = settle hw cpu s in
    let test : Group → Bool = is_eligible hw cpu in
    let own : Lists = lists_of s (context.Processor cpu) in
    let one : List Judged = own_verdicts hw s cpu in
    let h : IsSettledFrom hw cpu s one (task_on s cpu) t = is_settled_from hw cpu s low in
    let running : task_on t cpu ≡ task_on s cpu = ap (λ running. slice_index_or running cpu.0 None) h.running in
    let first : filter test (settle_pass hw cpu [] [] own.pinned) ≡ going hw [] [] (filter test own.pinned) = eligible-settled hw cpu [] [] own.pinned in
    let verdicts_now : own_verdicts hw t cpu ≡ kept one = grind (arith, nat_tests, judge_pass-kept) in
    let own_again : own_settled hw cpu t ≡ t =
    change_context-none (context.Processor cpu) (settle_lists hw cpu []) t
    (rw h.own (ap (λ pinned. record { pinned = pinned; flexible = own.flexible }) (settle_pass-again hw cpu [] [] [] own.pinned refl))) in
    let as_before : settle_task hw cpu (own_verdicts hw t cpu) (task_on t cpu) (own_settled hw cpu t) ≡ settle_task hw cpu (kept one) (task_on s cpu) t =
    grind (arith, nat_tests, kept) in
    as_before ∙ task-again hw cpu one (kept one) (task_on s cpu) s t (sym (groups_on-kept one)) h.task

pub verdicts_by_eligible : VerdictsLaw
unfolding verdicts
verdicts_by_eligible hw cpu s t same = ap (judge_passes hw []) same
