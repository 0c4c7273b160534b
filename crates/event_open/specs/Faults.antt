-- inner
-- The reasons for which an open is refused, in parts: those of the event alone, those of the leader that is given, and
-- those of its group. After the system call perf_event_open of kernel/events/core.c; their order is this project's own
-- profile.
use Rattle.std.specs.{Prelude.{Bool, not, nat_lt, ◌&&◌, ◌||◌, List, [], ◌∷◌, ◌++◌, length, Option, is_some}, List.{list_any}}
use Rattle.perf_base.specs.declared.{numbers.{EventNo.{EventNo}, Key.{Key}}, attr.{Attr.{Attr}, Kind.{Kind}}, reasons.Reason.{Reason}}
use Rattle.perf_base.specs.declared.reasons.Reason.TheVariants as reason
use Rattle.stage_spec.specs.{Checks.{faults_of}, Flags.{is_inherited, is_pinned, is_exclusive}, Hardware.{Hardware}}
use Rattle.stage_spec.specs.Opening.{is_same_flag, is_used, is_other_pmu, names_other_pmu, names_no_task, leader_is_closed, leader_is_sibling, leader_is_elsewhere, leader_inherits_otherwise}
use Rattle.stage_spec.specs.{Places.{is_same_task, is_same_cpu}, Stage.{Stage}}
use Rattle.world_spec.specs.Value.{World, entry_at, instance_at, is_key}

-- the place is of another PMU, or its task is not there
abbrev pub place_faults : Hardware → Stage → Attr → List (Reason × Bool)
place_faults hw s a = (reason.NoDevice, names_other_pmu hw a a.cpu) ∷ (reason.NoTask, names_no_task s a.task) ∷ []

-- the slot was used, the attribute is not one that is taken, or its place is not
abbrev pub event_faults : Hardware → Stage → EventNo → Attr → List (Reason × Bool)
event_faults hw s e a = (reason.Exists, is_used s e) ∷ faults_of a ++ place_faults hw s a

-- the leader that is given leads no group that the event may join
abbrev pub leader_faults : Stage → Attr → Option EventNo → List (Reason × Bool)
leader_faults s a leader = (reason.NoEvent, leader_is_closed s leader) ∷ (reason.NotLeader, leader_is_sibling s leader)
    ∷ (reason.OtherContext, leader_is_elsewhere s a leader) ∷ (reason.SiblingFlags, is_some leader && (is_pinned a || is_exclusive a))
    ∷ (reason.Inherit, leader_inherits_otherwise s a leader) ∷ []

-- the same of a leader that is open, by its key
abbrev pub joining_faults : World → Attr → Key → List (Reason × Bool)
joining_faults w a first = (reason.NotLeader, not (is_key first (entry_at w first).leader))
    ∷ (reason.OtherContext, not (is_same_task (instance_at w first).attr.task a.task && is_same_cpu (instance_at w first).attr.cpu a.cpu))
    ∷ (reason.SiblingFlags, is_pinned a || is_exclusive a)
    ∷ (reason.Inherit, not (is_same_flag (is_inherited (instance_at w first).attr) (is_inherited a))) ∷ []

-- its group, by the keys of its members, is of another PMU, or has no room
abbrev pub group_faults : World → Kind → List Key → List (Reason × Bool)
group_faults w kind members = (reason.OtherPmu, list_any (λ k. is_other_pmu w.hardware kind (instance_at w k).attr.kind) members)
    ∷ (reason.GroupFull, not (nat_lt (length members) 8)) ∷ []
