-- An instance gets nothing before its birth.
use Rattle.std.specs.Prelude.{◌≡◌, ℕ, ◌≤◌, Bool, true, false, List, [], ◌∷◌, ◌++◌, map, filter, flat_map, Option, Some, None, if◌then◌else◌}
use Rattle.std.proofs.{Common.{arith, refl, ap, ◌∙◌}, lemmas.Bool.Decides.{nat_tests}}
use Rattle.perf_base.specs.declared.{numbers.{CpuNo.{CpuNo}, TaskNo.{TaskNo}}, lines.{CpuLine.{CpuLine}, ToolLine.{ToolLine}}}
use Rattle.perf_base.specs.{declared.{reasons.Reason.{Reason}, reply.Sums.{Sums}}, Standings.{stands_on}}
use Rattle.perf_base.specs.declared.lines.CpuLine.TheVariants as cpu_line
use Rattle.perf_base.specs.declared.lines.ToolLine.TheVariants as tool_line
use Rattle.perf_base.specs.declared.standing.Context.TheVariants as context
use Rattle.stage_spec.specs.{declared.instance.Instance.{Instance}, Hardware.{Hardware}}
use Rattle.stage_spec.specs.{Stage.{Stage, Group, members_of, lists_of, task_on, first_stage}, Effective.{is_ready, state_in, ready_members}}
use Rattle.stage_spec.specs.Verdict.{Judged, is_eligible, groups_on, judge, judge_pass, judge_passes, passes, task_lists, verdicts, on_instances}
use Rattle.stage_spec.specs.{Settle.{settle_all}, Commands.{command_each, enabled, disabled, targets, with_period}, Mapping.{mapped_to, output_to}}
use Rattle.stage_spec.specs.{Closing.{closed}, Switching.{switched}, Rotation.{rotated}, Exits.{exited}}
use Rattle.stage_spec.specs.History.{Step, CpuStep, ToolStep, SeenStep, cpu_refusal, tool_refusal, cpu_changed, tool_changed, stage_step, stage_after, unless_refused}
use Rattle.stage_spec.specs.{Sums.{resets, is_reset_by, sums_of, count_of, enabled_of, running_of}, Recurrence.{after_reset, BirthLaw}}
use Rattle.stage_spec.specs.Shares.{of_instance, share, no_sums, ready_instances, migration_hits, migration_share, cpu_share}
use Rattle.stage_spec.proofs.Recurrence.{same_sums, sums_of-push}
use Rattle.stage_spec.proofs.Each.{Each, none-Each, append-Each, map-Each, filter-Each, flat_map-Each, InGroup, InGroups, InLists}
use Rattle.stage_spec.proofs.Shape.{settle_all-numbers, switched-numbers, rotated-numbers, exited-numbers}
use Rattle.stage_spec.proofs.Ids.{IdBelow, AllBelow, AllBelow-more, first_stage-below, lists_of-below, task_lists-below, settle_all-below, opened-ids, opened_all-below, command_each-below, with_period-below, mapped_to-below, output_to-below, closed-below, exited-below, switched-below, rotated-below, forked-below, forked-ids}

find_none : (f : Instance → ℕ) (id : ℕ) (xs : List Instance) → Each (IdBelow id) xs → of_instance f id xs ≡ 0
unfolding Each
find_none f id [] h = refl
find_none f id (x ∷ xs) h = grind (arith, nat_tests, find_none f id xs h.1)

-- the groups that were judged are those of the passes
abbrev JudgedBelow : ℕ → Judged → Type 0
JudgedBelow n j = InGroup (IdBelow n) j.group

judge_pass-below : (n : ℕ) (hw : Hardware) (before within : List Judged) (groups : List Group) → Each (JudgedBelow n) within → InGroups (IdBelow n) groups
    → Each (JudgedBelow n) (judge_pass hw before within groups)
unfolding judge_pass Each
judge_pass-below n hw before within [] h k = h
judge_pass-below n hw before within (g ∷ groups) h k =
    judge_pass-below n hw before (within ++ record { group = g; standing = judge hw before within g } ∷ []) groups
    (append-Each (JudgedBelow n) within (record { group = g; standing = judge hw before within g } ∷ []) h (k.0, tt)) k.1

judge_passes-below : (n : ℕ) (hw : Hardware) (before : List Judged) (ps : List (List Group)) → Each (JudgedBelow n) before → Each (InGroups (IdBelow n)) ps
    → Each (JudgedBelow n) (judge_passes hw before ps)
unfolding judge_passes Each
judge_passes-below n hw before [] h k = h
judge_passes-below n hw before (pass ∷ rest) h k =
    judge_passes-below n hw (before ++ judge_pass hw before [] pass) rest
    (append-Each (JudgedBelow n) before (judge_pass hw before [] pass) h (judge_pass-below n hw before [] pass (none-Each (JudgedBelow n)) k.0)) k.1

passes-below : (n : ℕ) (s : Stage) (cpu : CpuNo) → AllBelow n s → Each (InGroups (IdBelow n)) (passes s cpu)
unfolding Each
passes-below n s cpu h =
    let own : InLists (IdBelow n) (lists_of s (context.Processor cpu)) = lists_of-below n (context.Processor cpu) s h in
    let task : InLists (IdBelow n) (task_lists s (task_on s cpu)) = task_lists-below n s (task_on s cpu) h in
    (own.in_pinned, (task.in_pinned, (own.in_flexible, (task.in_flexible, tt))))

on_instances-below : (n : ℕ) (hw : Hardware) (s : Stage) (cpu : CpuNo) → AllBelow n s → Each (IdBelow n) (on_instances hw s cpu)
unfolding verdicts
on_instances-below n hw s cpu h =
    let ps : List (List Group) = map (filter (is_eligible hw cpu)) (passes s cpu) in
    let all : Each (InGroups (IdBelow n)) ps =
    map-Each (InGroups (IdBelow n)) (InGroups (IdBelow n)) (filter (is_eligible hw cpu)) (λ gs k. filter-Each (InGroup (IdBelow n)) (is_eligible hw cpu) gs k) (passes s cpu) (passes-below n s cpu h) in
    let js : Each (JudgedBelow n) (verdicts hw s cpu) = judge_passes-below n hw [] ps (none-Each (JudgedBelow n)) all in
    flat_map-Each (InGroup (IdBelow n)) (IdBelow n) (λ g. filter (λ i. is_ready i.own) (members_of g)) (λ g k. filter-Each (IdBelow n) (λ i. is_ready i.own) (members_of g) k) (groups_on (verdicts hw s cpu))
    (map-Each (JudgedBelow n) (InGroup (IdBelow n)) (λ j. j.group) (λ j k. k) (filter (λ j. stands_on j.standing) (verdicts hw s cpu))
    (filter-Each (JudgedBelow n) (λ j. stands_on j.standing) (verdicts hw s cpu) js))

ready_instances-below : (n : ℕ) (s : Stage) (cpu : CpuNo) → AllBelow n s → Each (IdBelow n) (ready_instances s cpu)
ready_instances-below n s cpu h =
    flat_map-Each (InGroup (IdBelow n)) (IdBelow n) ready_members (λ g k. filter-Each (IdBelow n) (λ i. is_ready (state_in g i)) (members_of g) k) (flat_map (λ pass. pass) (passes s cpu))
    (flat_map-Each (InGroups (IdBelow n)) (InGroup (IdBelow n)) (λ pass. pass) (λ pass k. k) (passes s cpu) (passes-below n s cpu h))

-- the ids of a stage are drawn, and a step draws more
pub record Grows (s t : Stage) : Type 0 where
  pub ids : s.next_id ≤ t.next_id
  pub below : AllBelow t.next_id t

unless_refused-below : (n : ℕ) (hw : Hardware) (r : Option Reason) (change : Stage → Stage) (s : Stage) → AllBelow n s → AllBelow n (change s) → AllBelow n (unless_refused hw r change s)
unless_refused-below n hw (Some r) change s h k = h
unless_refused-below n hw None change s h k = settle_all-below n hw (change s) k

unless_refused-grows : (hw : Hardware) (r : Option Reason) (change : Stage → Stage) (s : Stage) → AllBelow s.next_id s → Grows s (change s) → Grows s (unless_refused hw r change s)
unless_refused-grows hw (Some r) change s h k = record { ids = omega arith; below = h }
unless_refused-grows hw None change s h k =
    let same : (settle_all hw (change s)).next_id ≡ (change s).next_id = (settle_all-numbers hw (change s)).ids in
    record { ids = omega (arith, same, k.ids); below = rw same (settle_all-below (change s).next_id hw (change s) k.below) }

same_ids : (s t : Stage) → t.next_id ≡ s.next_id → AllBelow s.next_id t → Grows s t
same_ids s t same h = record { ids = omega (arith, same); below = rw same h }

cpu_changed-grows : (hw : Hardware) (cpu : CpuNo) (line : CpuLine) (s : Stage) → AllBelow s.next_id s → Grows s (cpu_changed hw cpu line s)
cpu_changed-grows hw cpu (cpu_line.Switch to) s h = same_ids s (switched cpu to s) (switched-numbers cpu to s).ids (switched-below s.next_id cpu to s h)
cpu_changed-grows hw cpu (cpu_line.Work w) s h = same_ids s s refl h
cpu_changed-grows hw cpu cpu_line.Tick s h = same_ids s (rotated hw cpu s) (rotated-numbers hw cpu s).ids (rotated-below s.next_id hw cpu s h)
cpu_changed-grows hw cpu (cpu_line.Fork child) s h = record { ids = forked-ids cpu child s; below = forked-below cpu child s h }
cpu_changed-grows hw cpu cpu_line.Exit s h = same_ids s (exited cpu s) (exited-numbers cpu s).ids (exited-below s.next_id cpu s h)

tool_changed-grows : (line : ToolLine) (s : Stage) → AllBelow s.next_id s → Grows s (tool_changed line s)
unfolding command_each with_period mapped_to output_to closed
tool_changed-grows (tool_line.Open slot attr leader) s h = record { ids = opened-ids s slot attr leader; below = opened_all-below s slot attr leader h }
tool_changed-grows (tool_line.Enable event group) s h = same_ids s (command_each enabled (targets s event group) s) refl (command_each-below s.next_id enabled (targets s event group) s h)
tool_changed-grows (tool_line.Disable event group) s h = same_ids s (command_each disabled (targets s event group) s) refl (command_each-below s.next_id disabled (targets s event group) s h)
tool_changed-grows (tool_line.Reset event group) s h = same_ids s s refl h
tool_changed-grows (tool_line.Period event period) s h = same_ids s (with_period event period s) refl (with_period-below s.next_id event period s h)
tool_changed-grows (tool_line.Read event size) s h = same_ids s s refl h
tool_changed-grows (tool_line.Map event ring) s h = same_ids s (mapped_to event ring s) refl (mapped_to-below s.next_id event ring s h)
tool_changed-grows (tool_line.Output event target) s h = same_ids s (output_to event target s) refl (output_to-below s.next_id event target s h)
tool_changed-grows (tool_line.Close event) s h = same_ids s (closed event s) refl (closed-below s.next_id event s h)
tool_changed-grows (tool_line.Why event) s h = same_ids s s refl h
tool_changed-grows (tool_line.Seats cpu) s h = same_ids s s refl h

step-grows : (hw : Hardware) (s : Stage) (x : Step) → AllBelow s.next_id s → Grows s (stage_step hw s x)
unfolding stage_step
step-grows hw s (CpuStep cpu line) h = unless_refused-grows hw (cpu_refusal s cpu line) (cpu_changed hw cpu line) s h (cpu_changed-grows hw cpu line s h)
step-grows hw s (ToolStep line) h = unless_refused-grows hw (tool_refusal hw s line) (tool_changed line) s h (tool_changed-grows line s h)
step-grows hw s (SeenStep ring place) h = same_ids s s refl h

-- an id that was not drawn gets nothing by a step
either_sums : (b : Bool) (a : Sums) → a ≡ no_sums → (elim b as (λ x. Sums) [ true ↦ a | false ↦ no_sums ]) ≡ no_sums
either_sums true a h = h
either_sums false a h = refl

migration-none : (hw : Hardware) (b : Bool) (after : Stage) (cpu : CpuNo) (id : ℕ) → AllBelow id after → migration_share hw b after cpu id ≡ 0
migration-none hw true after cpu id h = find_none migration_hits id (on_instances hw after cpu) (on_instances-below id hw after cpu h)
migration-none hw false after cpu id h = refl

cpu_share-none : (hw : Hardware) (s : Stage) (cpu : CpuNo) (line : CpuLine) (id : ℕ) → AllBelow id s → cpu_share hw s cpu line id ≡ no_sums
unfolding stage_step
cpu_share-none hw s cpu (cpu_line.Switch to) id h =
    grind (arith, nat_tests, AllBelow, unless_refused-below, switched-below, find_none, on_instances-below, migration-none, either_sums)
cpu_share-none hw s cpu (cpu_line.Work w) id h = search (nat_tests, Each, IdBelow, on_instances-below, find_none, ready_instances-below, same_sums)
cpu_share-none hw s cpu cpu_line.Tick id h = refl
cpu_share-none hw s cpu (cpu_line.Fork child) id h = refl
cpu_share-none hw s cpu cpu_line.Exit id h = refl

pub share-none : (hw : Hardware) (s : Stage) (x : Step) (id : ℕ) → AllBelow id s → share hw s x id ≡ no_sums
unfolding share
share-none hw s (CpuStep cpu line) id h = cpu_share-none hw s cpu line id h
share-none hw s (ToolStep line) id h = refl
share-none hw s (SeenStep ring place) id h = refl

-- nor by a whole history
pub after-ids : (hw : Hardware) (s : Stage) (steps : List Step) → AllBelow s.next_id s → Grows s (stage_after hw s steps)
unfolding stage_after
after-ids hw s [] h = same_ids s s refl h
after-ids hw s (x ∷ steps) h =
    let one : Grows s (stage_step hw s x) = step-grows hw s x h in
    let rest : Grows (stage_step hw s x) (stage_after hw (stage_step hw s x) steps) = after-ids hw (stage_step hw s x) steps one.below in
    record { ids = omega (arith, one.ids, rest.ids); below = rest.below }

nothing : (b : Bool) (n : ℕ) → n ≡ 0 → (if b then 0 else n) ≡ 0
nothing true n h = refl
nothing false n h = h

pub unborn : (hw : Hardware) (s : Stage) (steps : List Step) (id : ℕ) → AllBelow s.next_id s → (stage_after hw s steps).next_id ≤ id → sums_of hw s steps id ≡ no_sums
unfolding sums_of stage_after count_of enabled_of running_of
unborn hw s [] id h low = refl
unborn hw s (x ∷ steps) id h low =
    let next : Stage = stage_step hw s x in
    let one : Grows s next = step-grows hw s x h in
    let rest : Grows next (stage_after hw next steps) = after-ids hw next steps one.below in
    let later : sums_of hw next steps id ≡ no_sums = unborn hw next steps id one.below low in
    let now : share hw s x id ≡ no_sums = share-none hw s x id (AllBelow-more s.next_id id (omega (arith, one.ids, rest.ids, low)) s h) in
    let reset : Bool = is_reset_by hw next steps id in
    let count : (if reset then 0 else (share hw s x id).count) ≡ 0 = nothing reset (share hw s x id).count (ap (λ a. a.count) now) in
    grind (arith, nat_tests, same_sums, reset, next, count, later, now)

pub reset-none : (b : Bool) → after_reset b no_sums ≡ no_sums
reset-none true = refl
reset-none false = refl

pub at_first : (cpus : ℕ) (declared : List TaskNo) → AllBelow (first_stage cpus declared).next_id (first_stage cpus declared)
unfolding first_stage
at_first cpus declared = first_stage-below cpus declared

pub births : BirthLaw
births hw cpus declared steps x id low =
    let s : Stage = first_stage cpus declared in
    let last : Stage = stage_after hw s steps in
    let first : AllBelow s.next_id s = at_first cpus declared in
    let drawn : Grows s last = after-ids hw s steps first in
    let before : sums_of hw s steps id ≡ no_sums = unborn hw s steps id first low in
    let now : share hw last x id ≡ no_sums = share-none hw last x id (AllBelow-more last.next_id id low last drawn.below) in
    sums_of-push hw s steps x id ∙ (rw (before, now, reset-none (resets last x id)) refl)
