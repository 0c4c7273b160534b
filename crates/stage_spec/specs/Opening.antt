-- believed
-- What opening an event does, and for what it is refused. After perf_event_open(2) and the system call of that name
-- in kernel/events/core.c; what is this project's own profile is marked.
use Rattle.std.specs.Prelude.{ℕ, ◌+◌, ◌==◌, nat_lt, Bool, true, false, not, ◌&&◌, ◌||◌, List, [], ◌∷◌, ◌++◌, map, Option, Some, None, is_some, if◌then◌else◌}
use Rattle.std.specs.List.{list_any}
use Rattle.perf_base.specs.declared.{numbers.EventNo.{EventNo}, attr.{Attr.{Attr}, Kind.{Kind}, TaskSel.{TaskSel}, CpuSel.{CpuSel}}}
use Rattle.perf_base.specs.{declared.{standing.Own.{Own}, reasons.Reason.{Reason}}, Contexts.{context_of}}
use Rattle.perf_base.specs.declared.attr.TaskSel.TheVariants as tasks
use Rattle.perf_base.specs.declared.attr.CpuSel.TheVariants as cpus
use Rattle.perf_base.specs.declared.standing.Own.TheVariants as own
use Rattle.perf_base.specs.declared.reasons.Reason.TheVariants as reason
use Rattle.stage_spec.specs.{declared.instance.Instance.{Instance}, Flags.{is_disabled, is_inherited, is_pinned, is_exclusive}}
use Rattle.stage_spec.specs.{Hardware.{Hardware, pmu_of_kind, is_pmu, is_counted_on}, Places.{is_same_task, is_same_cpu}}
use Rattle.stage_spec.specs.Refusals.{first_of, holds_of}
use Rattle.stage_spec.specs.Stage.{Stage, Group, members_of, group_size, alone, Lists, is_original, is_open, original_of, group_of, status_of, is_live, change_context}
use Rattle.stage_spec.specs.{Effective.{hardware_members, name_of}, Verdict.{with_masks}, Fits.{fits}, Tight.{masks_of, tight_set, shortest_unfit}}
use Rattle.stage_spec.specs.Checks.{faults_of}

-- whether two flags are the same
abbrev pub is_same_flag : Bool → Bool → Bool
is_same_flag true b = b
is_same_flag false b = not b

-- the slot was opened before (own)
abbrev pub is_used : Stage → EventNo → Bool
is_used s slot = list_any (λ e. e.0 == slot.0) s.used

-- the event is of a hardware kind and names a processor of another PMU
abbrev pub names_other_pmu : Hardware → Attr → CpuSel → Bool
names_other_pmu hw a cpus.Any = false
names_other_pmu hw a (cpus.One cpu) = not (is_counted_on hw cpu a.kind)

-- it names a task that is not there or has exited
abbrev pub names_no_task : Stage → TaskSel → Bool
names_no_task s tasks.All = false
names_no_task s (tasks.One task) = not (is_live (status_of s task).state)

-- the original in the leader's slot, and its group, where a leader is given and open
abbrev pub leader_in : Stage → Option EventNo → Option Instance
leader_in s None = None
leader_in s (Some e) = original_of s e

abbrev pub group_led : Stage → Option EventNo → Option Group
group_led s None = None
group_led s (Some e) = group_of s e

-- the leader that is given is not open, is a sibling, counts elsewhere, or is inherited otherwise
abbrev pub leader_is_closed : Stage → Option EventNo → Bool
leader_is_closed s leader = holds_of (λ e. not (is_open s e)) leader

abbrev pub leader_is_sibling : Stage → Option EventNo → Bool
leader_is_sibling s leader = holds_of (λ e. holds_of (λ g. not ((name_of g).0 == e.0)) (group_of s e)) leader

abbrev pub leader_is_elsewhere : Stage → Attr → Option EventNo → Bool
leader_is_elsewhere s a leader = holds_of (λ i. not (is_same_task i.attr.task a.task && is_same_cpu i.attr.cpu a.cpu)) (leader_in s leader)

abbrev pub leader_inherits_otherwise : Stage → Attr → Option EventNo → Bool
leader_inherits_otherwise s a leader = holds_of (λ i. not (is_same_flag (is_inherited i.attr) (is_inherited a))) (leader_in s leader)

-- the event and some hardware member of the group are of different PMUs
abbrev pub is_other_pmu : Hardware → Kind → Kind → Bool
is_other_pmu hw k other = holds_of (λ pmu. not (is_pmu (pmu_of_kind hw other) pmu)) (pmu_of_kind hw k)

abbrev pub group_is_of_other_pmu : Hardware → Stage → Attr → Option EventNo → Bool
group_is_of_other_pmu hw s a leader = holds_of (λ g. list_any (λ i. is_other_pmu hw a.kind i.attr.kind) (members_of g)) (group_led s leader)

-- the group has eight members (own)
abbrev pub group_is_full : Stage → Option EventNo → Bool
group_is_full s leader = holds_of (λ g. not (nat_lt (group_size g) 8)) (group_led s leader)

-- the reasons before the last in their order, each with whether it holds
abbrev pub open_faults : Hardware → Stage → EventNo → Attr → Option EventNo → List (Reason × Bool)
open_faults hw s slot a leader = (reason.Exists, is_used s slot) ∷ faults_of a ++ (reason.NoDevice, names_other_pmu hw a a.cpu)
    ∷ (reason.NoTask, names_no_task s a.task) ∷ (reason.NoEvent, leader_is_closed s leader)
    ∷ (reason.NotLeader, leader_is_sibling s leader) ∷ (reason.OtherContext, leader_is_elsewhere s a leader)
    ∷ (reason.SiblingFlags, is_some leader && (is_pinned a || is_exclusive a)) ∷ (reason.Inherit, leader_inherits_otherwise s a leader)
    ∷ (reason.OtherPmu, group_is_of_other_pmu hw s a leader) ∷ (reason.GroupFull, group_is_full s leader) ∷ []

-- the new original; it draws the next id
abbrev pub first_state : Attr → Own
first_state a = if is_disabled a then own.Off else own.Ready

abbrev pub new_original : Stage → EventNo → Attr → Instance
new_original s slot a = record { event = slot; copy = false; id = s.next_id; attr = a; own = first_state a; ring = None; mapped = false }

-- a group that an instance joins, and the group as it would be
abbrev pub joined : Instance → Group → Group
joined i g = record g { siblings = g.siblings ++ i ∷ [] }

abbrev pub group_with : Option Group → Instance → Group
group_with None i = alone i
group_with (Some g) i = joined i g

-- The hardware members of the group, whatever their states, have no assignment by themselves: the tight set (own).
abbrev pub unassignable : List (EventNo × ℕ) → Option Reason
unassignable events = elim (fits (masks_of events)) [
  | true ↦ None
  | false ↦ Some (reason.NoAssignment (map (λ event. event.0) (tight_set (shortest_unfit events))))
]

-- for what an open is refused: the first reason that holds
unfoldable pub open_refusal : Hardware → Stage → EventNo → Attr → Option EventNo → Option Reason
open_refusal hw s slot a leader = elim (first_of (open_faults hw s slot a leader)) [
  | Some r ↦ Some r
  | None ↦ unassignable (with_masks hw (hardware_members (group_with (group_led s leader) (new_original s slot a))))
]

-- a group of its own goes last in the pinned or the flexible list
abbrev pub add_group : Bool → Group → Lists → Lists
add_group true g l = record l { pinned = l.pinned ++ g ∷ [] }
add_group false g l = record l { flexible = l.flexible ++ g ∷ [] }

-- a sibling goes last in the group that its leader leads
abbrev pub join_group : EventNo → Instance → Group → Group
join_group e i g = if is_original e g.leader then joined i g else g

abbrev pub join_lists : EventNo → Instance → Lists → Lists
join_lists e i l = record { pinned = map (join_group e i) l.pinned; flexible = map (join_group e i) l.flexible }

abbrev pub placed : Option EventNo → Instance → Stage → Stage
placed None i s = change_context (context_of i.attr) (add_group (is_pinned i.attr) (alone i)) s
placed (Some e) i s = record s { contexts = map (join_lists e i) s.contexts }

-- the stage after an open that is not refused
unfoldable pub opened : Stage → EventNo → Attr → Option EventNo → Stage
opened s slot a leader = record (placed leader (new_original s slot a) s) { used = s.used ++ slot ∷ []; next_id = s.next_id + 1 }
