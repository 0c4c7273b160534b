-- believed
-- What a fork does, after perf_event_init_task and inherit_group of kernel/events/core.c. Its refusals are this
-- project's own profile.
use Rattle.std.specs.Prelude.{ℕ, ◌+◌, nat_lt, true, false, List, [], ◌∷◌, filter, sum_by, Option, Some, None, if◌then◌else◌}
use Rattle.perf_base.specs.declared.{numbers.{CpuNo.{CpuNo}, TaskNo.{TaskNo}}, attr.Attr.{Attr}, standing.Own.{Own}, reasons.Reason.{Reason}}
use Rattle.perf_base.specs.declared.standing.Context.TheVariants as context
use Rattle.perf_base.specs.declared.standing.Own.TheVariants as own
use Rattle.perf_base.specs.declared.reasons.Reason.TheVariants as reason
use Rattle.stage_spec.specs.declared.instance.Instance.{Instance}
use Rattle.stage_spec.specs.Stage.{Stage, Group, group_size, is_idle, Lists, original_of, task_on, status_of, fresh_task, was_used, live_copies, set_status, change_context}
use Rattle.stage_spec.specs.{Effective.{is_ready}, Verdict.{task_lists}, Flags.{is_inherited}, Refusals.{first_of}}

-- the groups whose leaders are inherited
abbrev pub inherited_groups : List Group → List Group
inherited_groups groups = filter (λ g. is_inherited g.leader.attr) groups

-- the present period of the original
abbrev pub present_period : Option Instance → Attr → ℕ
present_period None a = a.period
present_period (Some original) a = original.attr.period

abbrev pub copied_state : Own → Own
copied_state o = if is_ready o then own.Ready else own.Off

-- A copy is of the original, also where it is made from a copy. It is ready where the instance before it is, and else
-- off.
abbrev pub copy_of : Stage → ℕ → Instance → Instance
copy_of s id i = record {
  event = i.event;
  copy = true;
  id = id;
  attr = record i.attr { period = present_period (original_of s i.event) i.attr };
  own = copied_state i.own;
  ring = None;
  mapped = false;
}

-- the copies of some instances, of a group and of groups, the first with this id and each with the next
unfoldable pub copies_from : Stage → ℕ → List Instance → List Instance
copies_from s id [] = []
copies_from s id (i ∷ instances) = copy_of s id i ∷ copies_from s (id + 1) instances

abbrev pub copy_group : Stage → ℕ → Group → Group
copy_group s id g = record { leader = copy_of s id g.leader; siblings = copies_from s (id + 1) g.siblings }

unfoldable pub copy_groups : Stage → ℕ → List Group → List Group
copy_groups s id [] = []
copy_groups s id (g ∷ groups) = copy_group s id g ∷ copy_groups s (id + group_size g) groups

-- the groups that a child gets: the pinned ones take the first ids
abbrev pub copied : Stage → Lists → Lists
copied s l = record {
  pinned = copy_groups s s.next_id (inherited_groups l.pinned);
  flexible = copy_groups s (s.next_id + sum_by group_size (inherited_groups l.pinned)) (inherited_groups l.flexible);
}

-- how many copies a fork makes
abbrev pub new_copies : Lists → ℕ
new_copies l = sum_by group_size (inherited_groups l.pinned) + sum_by group_size (inherited_groups l.flexible)

-- no task is on; the child's number was used; there would be more than 4,096 copies
abbrev pub fork_refusal : Stage → CpuNo → TaskNo → Option Reason
fork_refusal s cpu child = first_of ((reason.Idle, is_idle (task_on s cpu))
    ∷ (reason.Exists, was_used (status_of s child).state)
    ∷ (reason.CopiesFull, nat_lt 4096 (live_copies s + new_copies (task_lists s (task_on s cpu)))) ∷ [])

-- the child is there, with the copies, and the ids are drawn
unfoldable pub forked : CpuNo → TaskNo → Stage → Stage
forked cpu child s = record (set_status child fresh_task (change_context (context.Task child) (λ l. copied s (task_lists s (task_on s cpu))) s)) {
  next_id = s.next_id + new_copies (task_lists s (task_on s cpu));
}
