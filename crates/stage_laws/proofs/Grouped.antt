-- Each step keeps what groups are.
use Rattle.std.specs.Prelude.{◌≡◌, ℕ, ◌+◌, ◌<◌, ◌==◌, nat_lt, Bool, true, false, not, ◌&&◌, List, [], ◌∷◌, ◌++◌, map, flat_map, sum_by, Option, Some, None, if◌then◌else◌}
use Rattle.std.{specs.List.{list_any}, proofs.Common.{refl, sym, ap, ◌∙◌}}
use Rattle.std.proofs.lemmas.Bool.{and_parts, or_parts, false≢true, not-false, not-true, eqb-true, ltb-true, cond_both}
use Rattle.perf_base.specs.declared.{numbers.{CpuNo.{CpuNo}, EventNo.{EventNo}, RingNo.{RingNo}, TaskNo.{TaskNo}}, attr.Attr.{Attr}}
use Rattle.perf_base.specs.declared.{attr.{TaskSel.{TaskSel}, CpuSel.{CpuSel}}, lines.{CpuLine.{CpuLine}, ToolLine.{ToolLine}}}
use Rattle.perf_base.specs.{declared.{reasons.Reason.{Reason}, standing.Own.{Own}}, Contexts.{context_of}}
use Rattle.perf_base.specs.declared.attr.TaskSel.TheVariants as tasks
use Rattle.perf_base.specs.declared.attr.CpuSel.TheVariants as cpus
use Rattle.perf_base.specs.declared.lines.CpuLine.TheVariants as cpu_line
use Rattle.perf_base.specs.declared.lines.ToolLine.TheVariants as tool_line
use Rattle.perf_base.specs.declared.standing.Context.TheVariants as context
use Rattle.perf_base.specs.declared.standing.Own.TheVariants as own
use Rattle.stage_spec.specs.{declared.instance.Instance.{Instance}, Flags.{is_inherited, is_pinned, is_exclusive, is_disabled}, Hardware.{Hardware}}
use Rattle.stage_spec.specs.{Places.{is_same_task, is_same_cpu}, Refusals.{holds_of}}
use Rattle.stage_spec.specs.Stage.{Stage, lists_of, change_lists, Group, members_of, group_size, alone, Lists, groups_in, all_groups, change_group, no_groups, is_original, task_on, group_of, original_of, first_stage, change_each}
use Rattle.stage_spec.specs.{Effective.{hardware_members}, Verdict.{Judged, task_lists, with_masks}, Fits.{fits}, Tight.{masks_of}}
use Rattle.stage_spec.specs.Settle.{settle_lists, settle_all}
use Rattle.stage_spec.specs.Opening.{opened, placed, open_refusal, add_group, joined, join_group, join_lists, new_original, group_with, is_same_flag, is_other_pmu}
use Rattle.stage_spec.specs.Commands.{command_each, with_period, is_reached, enabled, disabled, targets}
use Rattle.stage_spec.specs.{Mapping.{mapped_to, output_to, set_ring, ring_of}, Closing.{without, kept_group, freed_groups}, Rotation.{turn_lists}}
use Rattle.stage_spec.specs.{Forks.{copied, copy_groups, inherited_groups, forked}, Reading.{is_error}}
use Rattle.stage_spec.specs.History.{Step, CpuStep, ToolStep, SeenStep, cpu_refusal, tool_refusal, cpu_changed, tool_changed, unless_refused, stage_step}
use Rattle.stage_spec.specs.Limits.{Limits, IsMachine, IsWithin}
use Rattle.stage_spec.proofs.Each.{Each, none-Each, append-Each, map-Each, weaker-Each, filter-Each, flat_map-Each, replicate-Each}
use Rattle.stage_spec.proofs.Parts.{All-from_Each, Each-from_All, both-Each, front-Each, back-Each, joined-Each, none_passes-Each}
use Rattle.stage_spec.proofs.Contexts.{At, At-from_each, each-from_At, both-At, map-at, task_lists-in, change_context-keeps, settle_all-keeps, rotated-keeps, closed-keeps, exited-keeps, switched-keeps, settle_pass-keeps, turned-keeps}
use Rattle.stage_laws.specs.Sound.{IsGroup, AreListed, IsGrouped, IsNumbered, IsSound}
use Rattle.stage_laws.proofs.Groups.{IsFine, IsGroup-from_fine, IsFine-from_group, IsSameSibling, kept_copy, IsSame-itself, IsFine-change, IsFine-failed, IsFine-copy, IsFine-alone, IsFine-kept, IsFine-freed, IsFine-joined}
use Rattle.stage_laws.proofs.{Accepted.{IsAccepted, accepted}, Leaders.{IsFound, IsLed, all_led}}

-- the groups of a context, each in its list
pub record AreFine (hw : Hardware) (l : Lists) : Type 0 where
  pub pinned : Each (IsFine hw true) l.pinned
  pub flexible : Each (IsFine hw false) l.flexible

no_groups-fine : (hw : Hardware) → AreFine hw no_groups
no_groups-fine hw = record { pinned = none-Each (IsFine hw true); flexible = none-Each (IsFine hw false) }

abbrev AllFine : Hardware → Stage → Type 0
AllFine hw s = At (λ n. AreFine hw) s

groups_in-grouped : (hw : Hardware) (l : Lists) → AreFine hw l → Each (IsGroup hw) (groups_in l)
groups_in-grouped hw l h = append-Each (IsGroup hw) l.pinned l.flexible
    (weaker-Each (IsFine hw true) (IsGroup hw) (IsGroup-from_fine hw true) l.pinned h.pinned)
    (weaker-Each (IsFine hw false) (IsGroup hw) (IsGroup-from_fine hw false) l.flexible h.flexible)

listed-fine : (hw : Hardware) (l : Lists) → AreFine hw l → AreListed l
listed-fine hw l h = record {
  pinned = All-from_Each (λ g. is_pinned g.leader.attr ≡ true) l.pinned (weaker-Each (IsFine hw true) (λ g. is_pinned g.leader.attr ≡ true) (λ g k. k.listed) l.pinned h.pinned);
  flexible = All-from_Each (λ g. is_pinned g.leader.attr ≡ false) l.flexible (weaker-Each (IsFine hw false) (λ g. is_pinned g.leader.attr ≡ false) (λ g k. k.listed) l.flexible h.flexible);
}

pub IsGrouped-from_fine : (hw : Hardware) (s : Stage) → AllFine hw s → IsGrouped hw s
IsGrouped-from_fine hw s h = record {
  groups = All-from_Each (IsGroup hw) (all_groups s) (flat_map-Each (AreFine hw) (IsGroup hw) groups_in (groups_in-grouped hw) s.contexts (each-from_At (AreFine hw) s h));
  lists = All-from_Each AreListed s.contexts (weaker-Each (AreFine hw) AreListed (listed-fine hw) s.contexts (each-from_At (AreFine hw) s h));
}

AreFine-from : (hw : Hardware) (l : Lists) → Each (IsGroup hw) (groups_in l) → AreListed l → AreFine hw l
AreFine-from hw l h k = record {
  pinned = both-Each (IsGroup hw) (λ g. is_pinned g.leader.attr ≡ true) (IsFine hw true) (λ g. IsFine-from_group hw true g) l.pinned
      (front-Each (IsGroup hw) l.pinned l.flexible h) (Each-from_All (λ g. is_pinned g.leader.attr ≡ true) l.pinned k.pinned);
  flexible = both-Each (IsGroup hw) (λ g. is_pinned g.leader.attr ≡ false) (IsFine hw false) (λ g. IsFine-from_group hw false g) l.flexible
      (back-Each (IsGroup hw) l.pinned l.flexible h) (Each-from_All (λ g. is_pinned g.leader.attr ≡ false) l.flexible k.flexible);
}

pub AllFine-from_grouped : (hw : Hardware) (s : Stage) → IsGrouped hw s → AllFine hw s
AllFine-from_grouped hw s h =
    At-from_each (AreFine hw) (no_groups-fine hw) s
    (both-Each (λ l. Each (IsGroup hw) (groups_in l)) AreListed (AreFine hw) (AreFine-from hw) s.contexts
    (joined-Each (IsGroup hw) groups_in s.contexts (Each-from_All (IsGroup hw) (all_groups s) h.groups))
    (Each-from_All AreListed s.contexts h.lists))

-- settling, a tick, and instances that go
settles-fine : (hw : Hardware) (cpu : CpuNo) (before : List Judged) (l : Lists) → AreFine hw l → AreFine hw (settle_lists hw cpu before l)
settles-fine hw cpu before l h = record { pinned = settle_pass-keeps (IsFine hw true) (IsFine-failed hw true) hw cpu before [] l.pinned h.pinned; flexible = h.flexible }

turns-fine : (hw : Hardware) (cpu : CpuNo) (judged : List Judged) (l : Lists) → AreFine hw l → AreFine hw (turn_lists hw cpu judged l)
turns-fine hw cpu judged l h = record { pinned = h.pinned; flexible = turned-keeps (IsFine hw false) hw cpu judged l.flexible h.flexible }

loses-fine : (hw : Hardware) (goes : Instance → Bool) (l : Lists) → AreFine hw l → AreFine hw (without goes l)
loses-fine hw goes l h =
    let pinned : Each (λ g. Each (IsFine hw false) (freed_groups goes g)) l.pinned =
    weaker-Each (IsFine hw true) (λ g. Each (IsFine hw false) (freed_groups goes g)) (IsFine-freed hw true goes) l.pinned h.pinned in
    let flexible : Each (λ g. Each (IsFine hw false) (freed_groups goes g)) l.flexible =
    weaker-Each (IsFine hw false) (λ g. Each (IsFine hw false) (freed_groups goes g)) (IsFine-freed hw false goes) l.flexible h.flexible in
    record {
      pinned = flat_map-Each (IsFine hw true) (IsFine hw true) (kept_group goes) (IsFine-kept hw true goes) l.pinned h.pinned;
      flexible = append-Each (IsFine hw false) (flat_map (kept_group goes) l.flexible) (flat_map (freed_groups goes) (l.pinned ++ l.flexible))
          (flat_map-Each (IsFine hw false) (IsFine hw false) (kept_group goes) (IsFine-kept hw false goes) l.flexible h.flexible)
          (flat_map-Each (λ g. Each (IsFine hw false) (freed_groups goes g)) (IsFine hw false) (freed_groups goes) (λ g k. k) (l.pinned ++ l.flexible)
          (append-Each (λ g. Each (IsFine hw false) (freed_groups goes g)) l.pinned l.flexible pinned flexible));
    }

-- a change of each instance
changes-fine : (hw : Hardware) (f : Instance → Instance) → ((i : Instance) → IsSameSibling kept_copy i (f i)) → (s : Stage) → AllFine hw s → AllFine hw (change_each f s)
changes-fine hw f k s h = map-at (λ n. AreFine hw) (λ n. AreFine hw) (change_lists f) s refl (λ n l fine. record {
  pinned = map-Each (IsFine hw true) (IsFine hw true) (change_group f) (IsFine-change hw true f k) l.pinned fine.pinned;
  flexible = map-Each (IsFine hw false) (IsFine hw false) (change_group f) (IsFine-change hw false f k) l.flexible fine.flexible;
}) h

sibling-itself : (i : Instance) → IsSameSibling kept_copy i i
sibling-itself i = record { same = IsSame-itself i; error = λ k. k }

one_of-same : (b : Bool) (i j : Instance) → IsSameSibling kept_copy i j → IsSameSibling kept_copy i (if b then j else i)
one_of-same true i j h = h
one_of-same false i j h = sibling-itself i

enabled-well : (o : Own) → is_error (enabled o) ≡ false
enabled-well own.Off = refl
enabled-well own.Ready = refl
enabled-well (own.Error cause) = refl

disabled-well : (o : Own) → is_error (disabled o) ≡ false
disabled-well own.Off = refl
disabled-well own.Ready = refl
disabled-well (own.Error cause) = refl

command_each-fine : (hw : Hardware) (f : Own → Own) → ((o : Own) → is_error (f o) ≡ false) → (events : List EventNo) (s : Stage) → AllFine hw s → AllFine hw (command_each f events s)
unfolding command_each
command_each-fine hw f well events s h =
    changes-fine hw (λ i. if is_reached events i then record i { own = f i.own } else i)
    (λ i. one_of-same (is_reached events i) i (record i { own = f i.own })
    (record { same = record { copy = refl; task = refl; cpu = refl; flags = refl; kind = refl }; error = λ k. well i.own })) s h

with_period-fine : (hw : Hardware) (e : EventNo) (period : ℕ) (s : Stage) → AllFine hw s → AllFine hw (with_period e period s)
unfolding with_period
with_period-fine hw e period s h =
    changes-fine hw (λ i. if is_original e i then record i { attr = record i.attr { period = period } } else i)
    (λ i. one_of-same (is_original e i) i (record i { attr = record i.attr { period = period } })
    (record { same = record { copy = refl; task = refl; cpu = refl; flags = refl; kind = refl }; error = λ k. k })) s h

set_ring-fine : (hw : Hardware) (e : EventNo) (ring : Option RingNo) (owner : Bool) (s : Stage) → AllFine hw s → AllFine hw (set_ring e ring owner s)
set_ring-fine hw e ring owner s h =
    changes-fine hw (λ i. if is_original e i then record i { ring = ring; mapped = owner } else i)
    (λ i. one_of-same (is_original e i) i (record i { ring = ring; mapped = owner })
    (record { same = record { copy = refl; task = refl; cpu = refl; flags = refl; kind = refl }; error = λ k. k })) s h

-- a fork
copy_groups-fine : (hw : Hardware) (pinned : Bool) (s : Stage) (id : ℕ) (groups : List Group) → Each (IsFine hw pinned) groups → Each (IsFine hw pinned) (copy_groups s id groups)
unfolding copy_groups Each
copy_groups-fine hw pinned s id [] h = tt
copy_groups-fine hw pinned s id (g ∷ groups) h = (IsFine-copy hw pinned s id g h.0, copy_groups-fine hw pinned s (id + group_size g) groups h.1)

copied-fine : (hw : Hardware) (s : Stage) (l : Lists) → AreFine hw l → AreFine hw (copied s l)
copied-fine hw s l h = record {
  pinned = copy_groups-fine hw true s s.next_id (inherited_groups l.pinned) (filter-Each (IsFine hw true) (λ g. is_inherited g.leader.attr) l.pinned h.pinned);
  flexible = copy_groups-fine hw false s (s.next_id + sum_by group_size (inherited_groups l.pinned)) (inherited_groups l.flexible)
      (filter-Each (IsFine hw false) (λ g. is_inherited g.leader.attr) l.flexible h.flexible);
}

forked-fine : (hw : Hardware) (cpu : CpuNo) (child : TaskNo) (s : Stage) → AllFine hw s → AllFine hw (forked cpu child s)
unfolding forked
forked-fine hw cpu child s h =
    change_context-keeps (λ n. AreFine hw) (λ n. no_groups-fine hw) (context.Task child) (λ l. copied s (task_lists s (task_on s cpu))) s
    (λ k. copied-fine hw s (task_lists s (task_on s cpu)) (task_lists-in (AreFine hw) (no_groups-fine hw) s (task_on s cpu) h)) h

-- an open
add_group-fine : (hw : Hardware) (pinned : Bool) (g : Group) → IsFine hw pinned g → (l : Lists) → AreFine hw l → AreFine hw (add_group pinned g l)
unfolding Each
add_group-fine hw true g fine l h = record { pinned = append-Each (IsFine hw true) l.pinned (g ∷ []) h.pinned (fine, tt); flexible = h.flexible }
add_group-fine hw false g fine l h = record { pinned = h.pinned; flexible = append-Each (IsFine hw false) l.flexible (g ∷ []) h.flexible (fine, tt) }

alone-fine : (hw : Hardware) (s : Stage) (slot : EventNo) (a : Attr) → IsAccepted hw s slot a None → IsFine hw (is_pinned a) (alone (new_original s slot a))
unfolding fits
alone-fine hw s slot a h = IsFine-alone hw (is_pinned a) (new_original s slot a) refl h.fit

pub same_task : (here there : TaskSel) → is_same_task here there ≡ true → here ≡ there
same_task tasks.All tasks.All h = refl
same_task tasks.All (tasks.One task) h = absurd (false≢true h)
same_task (tasks.One task) tasks.All h = absurd (false≢true h)
same_task (tasks.One task) (tasks.One other) h = ap (λ n. tasks.One (record { 0 = n })) (eqb-true task.0 other.0 h)

pub same_cpu : (here there : CpuSel) → is_same_cpu here there ≡ true → here ≡ there
same_cpu cpus.Any cpus.Any h = refl
same_cpu cpus.Any (cpus.One cpu) h = absurd (false≢true h)
same_cpu (cpus.One cpu) cpus.Any h = absurd (false≢true h)
same_cpu (cpus.One cpu) (cpus.One other) h = ap (λ n. cpus.One (record { 0 = n })) (eqb-true cpu.0 other.0 h)

same_flag : (b c : Bool) → is_same_flag b c ≡ true → b ≡ c
same_flag true c h = sym h
same_flag false c h = sym (not-true c h)

first_state-well : (b : Bool) → is_error (if b then own.Off else own.Ready) ≡ false
first_state-well true = refl
first_state-well false = refl

pub holds_of-some : {X : Type 0} (test : X → Bool) (o : Option X) (x : X) → o ≡ Some x → holds_of test o ≡ false → test x ≡ false
holds_of-some test o x e h = ap (holds_of test) (sym e) ∙ h

joined-fine : (hw : Hardware) (s : Stage) (slot : EventNo) (a : Attr) (e : EventNo) → IsAccepted hw s slot a (Some e) → (pinned : Bool) (g : Group)
    → IsFine hw pinned g → is_original e g.leader ≡ true → IsFound e (all_groups s) g → IsFine hw pinned (joined (new_original s slot a) g)
unfolding fits
joined-fine hw s slot a e h pinned g fine led found =
    let i : Instance = new_original s slot a in
    let here : (is_same_task g.leader.attr.task a.task && is_same_cpu g.leader.attr.cpu a.cpu) ≡ true =
    not-false _ (holds_of-some (λ j. not (is_same_task j.attr.task a.task && is_same_cpu j.attr.cpu a.cpu)) (original_of s e) g.leader found.leader h.here) in
    let places = and_parts (is_same_task g.leader.attr.task a.task) (is_same_cpu g.leader.attr.cpu a.cpu) here in
    let inherits : is_same_flag (is_inherited g.leader.attr) (is_inherited a) ≡ true =
    not-false _ (holds_of-some (λ j. not (is_same_flag (is_inherited j.attr) (is_inherited a))) (original_of s e) g.leader found.leader h.inherit) in
    let flags = or_parts (is_pinned a) (is_exclusive a) h.flags in
    let room : group_size g < 8 = ltb-true (group_size g) 8 (not-false _ (holds_of-some (λ k. not (nat_lt (group_size k) 8)) (group_of s e) g found.group h.room)) in
    let pmu : list_any (λ j. is_other_pmu hw a.kind j.attr.kind) (members_of g) ≡ false =
    holds_of-some (λ k. list_any (λ j. is_other_pmu hw a.kind j.attr.kind) (members_of k)) (group_of s e) g found.group h.pmu in
    let fit : fits (masks_of (with_masks hw (hardware_members (joined i g)))) ≡ true =
    ap (λ o. fits (masks_of (with_masks hw (hardware_members (group_with o i))))) (sym found.group) ∙ h.fit in
    IsFine-joined hw pinned i g fine room
    (record {
      copy = not-true g.leader.copy (and_parts (g.leader.event.0 == e.0) (not g.leader.copy) led).1;
      task = same_task g.leader.attr.task a.task places.0;
      cpu = same_cpu g.leader.attr.cpu a.cpu places.1;
      inherit = same_flag (is_inherited g.leader.attr) (is_inherited a) inherits;
    })
    (record { pinned = flags.0; exclusive = flags.1; error = first_state-well (is_disabled a) })
    fit (none_passes-Each (λ j. is_other_pmu hw a.kind j.attr.kind) (members_of g) pmu)

join_groups-fine : (hw : Hardware) (s : Stage) (slot : EventNo) (a : Attr) (e : EventNo) → IsAccepted hw s slot a (Some e) → (pinned : Bool) (groups : List Group)
    → Each (IsFine hw pinned) groups → Each (IsLed e (all_groups s)) groups → Each (IsFine hw pinned) (map (join_group e (new_original s slot a)) groups)
join_groups-fine hw s slot a e h pinned groups fine led =
    map-Each (λ g. IsFine hw pinned (join_group e (new_original s slot a) g)) (IsFine hw pinned) (join_group e (new_original s slot a)) (λ g k. k) groups
    (both-Each (IsFine hw pinned) (IsLed e (all_groups s)) (λ g. IsFine hw pinned (join_group e (new_original s slot a) g))
    (λ g k l. cond_both (is_original e g.leader) (joined (new_original s slot a) g) g (IsFine hw pinned)
    (λ leads. joined-fine hw s slot a e h pinned g k leads (l leads)) (λ other. k)) groups fine led)

placed-fine : (hw : Hardware) (s : Stage) (slot : EventNo) (a : Attr) (leader : Option EventNo) → IsNumbered s → IsAccepted hw s slot a leader → AllFine hw s
    → AllFine hw (placed leader (new_original s slot a) s)
placed-fine hw s slot a None n h fine =
    change_context-keeps (λ n. AreFine hw) (λ n. no_groups-fine hw) (context_of a) (add_group (is_pinned a) (alone (new_original s slot a))) s
    (add_group-fine hw (is_pinned a) (alone (new_original s slot a)) (alone-fine hw s slot a h) (lists_of s (context_of a))) fine
placed-fine hw s slot a (Some e) n h fine =
    let led : At (λ k l. Each (IsLed e (all_groups s)) (groups_in l)) s =
    At-from_each (λ l. Each (IsLed e (all_groups s)) (groups_in l)) (none-Each (IsLed e (all_groups s))) s
    (joined-Each (IsLed e (all_groups s)) groups_in s.contexts (all_led e (all_groups s) (n.one_original e))) in
    map-at (λ k l. AreFine hw (join_lists e (new_original s slot a) l)) (λ k. AreFine hw) (join_lists e (new_original s slot a)) s refl (λ k l g. g)
    (both-At (λ k. AreFine hw) (λ k l. Each (IsLed e (all_groups s)) (groups_in l)) (λ k l. AreFine hw (join_lists e (new_original s slot a) l))
    (λ k l g leads. record {
      pinned = join_groups-fine hw s slot a e h true l.pinned g.pinned (front-Each (IsLed e (all_groups s)) l.pinned l.flexible leads);
      flexible = join_groups-fine hw s slot a e h false l.flexible g.flexible (back-Each (IsLed e (all_groups s)) l.pinned l.flexible leads);
    }) s fine led)

opened-fine : (hw : Hardware) (s : Stage) (slot : EventNo) (a : Attr) (leader : Option EventNo) → IsNumbered s → open_refusal hw s slot a leader ≡ None → AllFine hw s
    → AllFine hw (opened s slot a leader)
unfolding opened
opened-fine hw s slot a leader n h fine = placed-fine hw s slot a leader n (accepted hw s slot a leader h) fine

-- a step
settled-fine : (hw : Hardware) (s : Stage) → AllFine hw s → AllFine hw (settle_all hw s)
settled-fine hw s h = settle_all-keeps (λ n. AreFine hw) (λ n. no_groups-fine hw) hw (λ n. settles-fine hw) s h

unless_refused-fine : (hw : Hardware) (r : Option Reason) (change : Stage → Stage) (s : Stage) → AllFine hw s → (r ≡ None → AllFine hw (change s)) → AllFine hw (unless_refused hw r change s)
unless_refused-fine hw (Some r) change s h k = h
unless_refused-fine hw None change s h k = settled-fine hw (change s) (k refl)

cpu_changed-fine : (hw : Hardware) (cpu : CpuNo) (line : CpuLine) (s : Stage) → AllFine hw s → AllFine hw (cpu_changed hw cpu line s)
cpu_changed-fine hw cpu (cpu_line.Switch to) s h = switched-keeps (λ n. AreFine hw) cpu to s h
cpu_changed-fine hw cpu (cpu_line.Work w) s h = h
cpu_changed-fine hw cpu cpu_line.Tick s h = rotated-keeps (λ n. AreFine hw) (λ n. no_groups-fine hw) hw (λ n. turns-fine hw) cpu s h
cpu_changed-fine hw cpu (cpu_line.Fork child) s h = forked-fine hw cpu child s h
cpu_changed-fine hw cpu cpu_line.Exit s h = exited-keeps (λ n. AreFine hw) (λ n. no_groups-fine hw) (λ n. loses-fine hw) cpu s h

tool_changed-fine : (hw : Hardware) (line : ToolLine) (s : Stage) → IsNumbered s → AllFine hw s → tool_refusal hw s line ≡ None → AllFine hw (tool_changed line s)
unfolding mapped_to output_to
tool_changed-fine hw (tool_line.Open slot attr leader) s n h k = opened-fine hw s slot attr leader n k h
tool_changed-fine hw (tool_line.Enable event group) s n h k = command_each-fine hw enabled enabled-well (targets s event group) s h
tool_changed-fine hw (tool_line.Disable event group) s n h k = command_each-fine hw disabled disabled-well (targets s event group) s h
tool_changed-fine hw (tool_line.Reset event group) s n h k = h
tool_changed-fine hw (tool_line.Period event period) s n h k = with_period-fine hw event period s h
tool_changed-fine hw (tool_line.Read event size) s n h k = h
tool_changed-fine hw (tool_line.Map event ring) s n h k = set_ring-fine hw event (Some ring) true s h
tool_changed-fine hw (tool_line.Output event target) s n h k = set_ring-fine hw event (ring_of s target) false s h
tool_changed-fine hw (tool_line.Close event) s n h k = closed-keeps (λ n. AreFine hw) (λ n. loses-fine hw) event s h
tool_changed-fine hw (tool_line.Why event) s n h k = h
tool_changed-fine hw (tool_line.Seats cpu) s n h k = h

step-fine : (hw : Hardware) (s : Stage) (x : Step) → IsNumbered s → AllFine hw s → AllFine hw (stage_step hw s x)
unfolding stage_step
step-fine hw s (CpuStep cpu line) n h = unless_refused-fine hw (cpu_refusal s cpu line) (cpu_changed hw cpu line) s h (λ k. cpu_changed-fine hw cpu line s h)
step-fine hw s (ToolStep line) n h = unless_refused-fine hw (tool_refusal hw s line) (tool_changed line) s h (tool_changed-fine hw line s n h)
step-fine hw s (SeenStep ring place) n h = h

pub grouped_step : (l : Limits) (hw : Hardware) (s : Stage) (x : Step) → IsMachine l hw → IsWithin l x → IsSound hw s → IsGrouped hw (stage_step hw s x)
grouped_step l hw s x machine within sound = IsGrouped-from_fine hw (stage_step hw s x) (step-fine hw s x sound.numbered (AllFine-from_grouped hw s sound.grouped))

-- at first there is none
pub grouped_first : (hw : Hardware) (cpus : ℕ) (declared : List TaskNo) → IsGrouped hw (first_stage cpus declared)
unfolding first_stage
grouped_first hw cpus declared = IsGrouped-from_fine hw (first_stage cpus declared)
    (At-from_each (AreFine hw) (no_groups-fine hw) (first_stage cpus declared) (replicate-Each (AreFine hw) 72 no_groups (no_groups-fine hw)))
