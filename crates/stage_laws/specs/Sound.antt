-- inner
-- What holds of every stage that lines lead to. This project's own profile, after what kernel/events/core.c keeps of
-- its contexts, its groups and the tasks that they follow.
use Rattle.std.specs.{Prelude.{◌≡◌, ℕ, ◌<◌, ◌≤◌, ◌==◌, Bool, true, false, All, IsTrue, count_by, Some, None}, List.{list_any}}
use Rattle.perf_base.specs.declared.{numbers.{CpuNo.{CpuNo}, EventNo.{EventNo}, RingNo.{RingNo}, TaskNo.{TaskNo}}, standing.Context.{Context}}
use Rattle.perf_base.specs.Contexts.{context_of}
use Rattle.perf_base.specs.declared.standing.Context.TheVariants as context
use Rattle.stage_spec.specs.{declared.instance.Instance.{Instance}, Flags.{is_inherited, is_pinned, is_exclusive}, Hardware.{Hardware}}
use Rattle.stage_spec.specs.{Limits.{HasShape}, Places.{is_all_tasks}}
use Rattle.stage_spec.specs.Stage.{Stage, Group, members_of, group_size, Lists, lists_of, all_groups, all_instances, no_groups, is_of_family, is_original, live_copies, original_of, task_on, status_of, is_live, was_used}
use Rattle.stage_spec.specs.{Effective.{hardware_members}, Fits.{fits}, Tight.{masks_of}, Verdict.{with_masks, reached, instances_in}}
use Rattle.stage_spec.specs.{Opening.{is_used, is_other_pmu}, Reading.{is_error}}

-- Ids were drawn, from 1 on, and no two instances have one. A slot has at most one original, and none before it was
-- used.
abbrev pub has_id : ℕ → Instance → Bool
has_id id i = i.id == id

pub record IsNumbered (s : Stage) : Type 0 where
  pub first : 1 ≤ s.next_id
  pub drawn : All (λ i. (1 ≤ i.id) × (i.id < s.next_id)) (all_instances s)
  pub once : (id : ℕ) → count_by (has_id id) (all_instances s) ≤ 1
  pub slots : All (λ i. i.event.0 < 256) (all_instances s)
  pub one_original : (e : EventNo) → count_by (is_original e) (all_instances s) ≤ 1
  pub used : (e : EventNo) → is_used s e ≡ false → count_by (is_original e) (all_instances s) ≡ 0
  pub few_copies : live_copies s ≤ 4096

-- two members of a group: both originals or both copies, of one task, one processor and one way to inherit
pub record AreAlike (i j : Instance) : Type 0 where
  pub copy : i.copy ≡ j.copy
  pub task : i.attr.task ≡ j.attr.task
  pub cpu : i.attr.cpu ≡ j.attr.cpu
  pub inherit : is_inherited i.attr ≡ is_inherited j.attr

-- a sibling is neither pinned nor exclusive, and never in error itself
pub record IsSibling (i : Instance) : Type 0 where
  pub pinned : is_pinned i.attr ≡ false
  pub exclusive : is_exclusive i.attr ≡ false
  pub error : is_error i.own ≡ false

-- A group has at most 8 members, which are alike. Its hardware members fit together, whatever their states, and are of
-- one PMU.
pub record IsGroup (hw : Hardware) (g : Group) : Type 0 where
  pub small : group_size g ≤ 8
  pub alike : All (AreAlike g.leader) g.siblings
  pub siblings : All IsSibling g.siblings
  pub fit : IsTrue (fits (masks_of (with_masks hw (hardware_members g))))
  pub one_pmu : All (λ i. All (λ j. is_other_pmu hw i.attr.kind j.attr.kind ≡ false) (members_of g)) (members_of g)

-- the pinned list of a context has the groups of pinned leaders, and the flexible list the others
pub record AreListed (l : Lists) : Type 0 where
  pub pinned : All (λ g. is_pinned g.leader.attr ≡ true) l.pinned
  pub flexible : All (λ g. is_pinned g.leader.attr ≡ false) l.flexible

pub record IsGrouped (hw : Hardware) (s : Stage) : Type 0 where
  pub groups : All (IsGroup hw) (all_groups s)
  pub lists : All AreListed s.contexts

-- A copy has its original's attribute, but for the period. What is copied counts a task.
pub record IsCopyOf (i original : Instance) : Type 0 where
  pub task : is_all_tasks i.attr.task ≡ false
  pub attr : i.attr ≡ record original.attr { period = i.attr.period }
  pub ring : i.ring ≡ None
  pub mapped : i.mapped ≡ false

-- An original stands in the context that its attribute names, and a copy in that of a live task. A context, and what a
-- processor reaches, has at most one instance of a family. The original of each copy is open.
pub record IsPlaced (s : Stage) : Type 0 where
  pub originals : (c : Context) → All (λ i. i.copy ≡ false → context_of i.attr ≡ c) (instances_in s c)
  pub no_copies : (cpu : CpuNo) → All (λ i. i.copy ≡ false) (instances_in s (context.Processor cpu))
  pub live_copies : (task : TaskNo) → is_live (status_of s task).state ≡ false → All (λ i. i.copy ≡ false) (instances_in s (context.Task task))
  pub unknown : (task : TaskNo) → was_used (status_of s task).state ≡ false → lists_of s (context.Task task) ≡ no_groups
  pub one_of_family : (c : Context) (e : EventNo) → count_by (is_of_family e) (instances_in s c) ≤ 1
  pub one_reached : (cpu : CpuNo) (e : EventNo) → count_by (is_of_family e) (reached s cpu) ≤ 1
  pub of_original : All (λ i. i.copy ≡ true → (original : Instance) × (original_of s i.event ≡ Some original) × IsCopyOf i original) (all_instances s)

-- the tasks that run are live, and each is on one processor
pub record AreRunning (s : Stage) : Type 0 where
  pub live : (cpu : CpuNo) (task : TaskNo) → task_on s cpu ≡ Some task → is_live (status_of s task).state ≡ true
  pub once : (cpu other : CpuNo) (task : TaskNo) → task_on s cpu ≡ Some task → task_on s other ≡ Some task → cpu.0 ≡ other.0

-- the rings that events write to were mapped
abbrev pub AreMapped : Stage → Type 0
AreMapped s = All (λ i. (ring : RingNo) → i.ring ≡ Some ring → IsTrue (list_any (λ r. r.0 == ring.0) s.mapped)) (all_instances s)

pub record IsSound (hw : Hardware) (s : Stage) : Type 0 where
  pub shape : HasShape hw s
  pub numbered : IsNumbered s
  pub grouped : IsGrouped hw s
  pub placed : IsPlaced s
  pub running : AreRunning s
  pub rings : AreMapped s
