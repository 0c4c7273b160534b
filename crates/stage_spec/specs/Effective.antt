-- believed
-- What an event's state comes to within its group, and what a group is by its events. After event_filter_match,
-- __perf_effective_state and is_software_event of kernel/events/core.c.
use Rattle.std.specs.{Prelude.{Bool, true, false, not, ◌&&◌, List, filter}, List.{list_all}}
use Rattle.perf_base.specs.declared.{numbers.EventNo.{EventNo}, standing.Own.{Own}}
use Rattle.perf_base.specs.declared.standing.Own.TheVariants as own
use Rattle.stage_spec.specs.{declared.instance.Instance.{Instance}, Flags.{is_exclusive}, Hardware.{is_software}, Stage.{Group, members_of}}

abbrev pub is_ready : Own → Bool
is_ready own.Off = false
is_ready own.Ready = true
is_ready (own.Error cause) = false

-- An event is off while its leader is. While its leader is in error it is in error too, with the leader's cause and
-- whatever its own state, since a group is put on whole. Else it is off while it is off itself. No sibling is ever in
-- error itself.
abbrev pub effective : (leader own : Own) → Own
effective own.Off mine = own.Off
effective (own.Error cause) mine = own.Error cause
effective own.Ready own.Off = own.Off
effective own.Ready own.Ready = own.Ready
effective own.Ready (own.Error cause) = own.Ready

-- the effective state of a member of a group
abbrev pub state_in : Group → Instance → Own
state_in g i = effective g.leader.own i.own

-- the slot of its leader's original, by which a group is named
abbrev pub name_of : Group → EventNo
name_of g = g.leader.event

-- those members whose effective state is ready
abbrev pub ready_members : Group → List Instance
ready_members g = filter (λ i. is_ready (state_in g i)) (members_of g)

abbrev pub is_hardware : Instance → Bool
is_hardware i = not (is_software i.attr.kind)

-- all members are of software kinds, whatever their states
abbrev pub is_wholly_software : Group → Bool
is_wholly_software g = list_all (λ i. is_software i.attr.kind) (members_of g)

-- a hardware group whose leader asks to be the only one; a wholly software group with the flag excludes nobody
abbrev pub is_exclusive_group : Group → Bool
is_exclusive_group g = is_exclusive g.leader.attr && not (is_wholly_software g)

-- its hardware members, whatever their states, and those of them that need a counter when the group is on
abbrev pub hardware_members : Group → List Instance
hardware_members g = filter is_hardware (members_of g)

abbrev pub counted_members : Group → List Instance
counted_members g = filter (λ i. is_ready i.own && is_hardware i) (members_of g)
