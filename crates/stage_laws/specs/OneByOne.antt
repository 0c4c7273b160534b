-- inner
-- What a line does to several instances, one instance at a time: changed, taken away and added by their ids. After the
-- loops over child_list, sibling_list and event_list of kernel/events/core.c.
use Rattle.std.specs.Prelude.{◌≡◌, ℕ, ◌+◌, ◌≤◌, ◌==◌, Bool, true, false, not, List, [], ◌∷◌, ◌++◌, filter, count_by, map, flat_map, Option, Some, None, if◌then◌else◌}
use Rattle.std.specs.List.{fold}
use Rattle.perf_base.specs.declared.{numbers.{CpuNo.{CpuNo}, EventNo.{EventNo}, RingNo.{RingNo}, TaskNo.{TaskNo}}, standing.Own.{Own}}
use Rattle.perf_base.specs.declared.standing.Context.TheVariants as context
use Rattle.stage_spec.specs.{declared.instance.Instance.{Instance}, Hardware.{Hardware}}
use Rattle.stage_spec.specs.Stage.{Stage, Group, alone, Lists, all_instances, is_of_family, is_copy, original_of, task_on, status_of, fresh_task, was_used, change_each, change_context, set_status}
use Rattle.stage_spec.specs.{Verdict.{task_lists, on_instances, instances_in}, Shares.{ready_instances}, Opening.{joined, add_group}}
use Rattle.stage_spec.specs.{Closing.{without, closed}, Commands.{is_reached, command_each, with_period}, Mapping.{set_ring}}
use Rattle.stage_spec.specs.{Forks.{inherited_groups, copy_of, forked}, Limits.{HasShape}}
use Rattle.stage_laws.specs.Sound.{IsNumbered, IsPlaced, IsGrouped, has_id}

-- the ids of some instances in their order, and in any order: each number as often as it is the id of one of them
abbrev pub ids_of : List Instance → List ℕ
ids_of instances = map (λ i. i.id) instances

abbrev pub AreIdsOf : List Instance → List ℕ → Type 0
AreIdsOf instances ids = (n : ℕ) → count_by (λ id. n == id) ids ≡ count_by (has_id n) instances

-- the instance of one id changed, and those of some ids one after the other
abbrev pub change_one : (Instance → Instance) → ℕ → Stage → Stage
change_one f id s = change_each (λ i. if has_id id i then f i else i) s

abbrev pub change_ones : (Instance → Instance) → List ℕ → Stage → Stage
change_ones f ids s = fold (λ t id. change_one f id t) s ids

abbrev pub with_own : (Own → Own) → Instance → Instance
with_own f i = record i { own = f i.own }

-- The ids of instances in their order are one such order.
abbrev pub IdsLaw : Type 0
IdsLaw = (instances : List Instance) → AreIdsOf instances (ids_of instances)

-- A command changes each instance that it reaches, one after the other, in any order.
abbrev pub CommandOneByOneLaw : Type 0
CommandOneByOneLaw = (f : Own → Own) (events : List EventNo) (s : Stage) (ids : List ℕ) → IsNumbered s
    → AreIdsOf (filter (is_reached events) (all_instances s)) ids → change_ones (with_own f) ids s ≡ command_each f events s

-- PERIOD changes one instance, the original; and so do MAP and OUTPUT.
abbrev pub PeriodOneLaw : Type 0
PeriodOneLaw = (e : EventNo) (period : ℕ) (s : Stage) (i : Instance) → IsNumbered s → original_of s e ≡ Some i
    → change_one (λ j. record j { attr = record j.attr { period = period } }) i.id s ≡ with_period e period s

abbrev pub RingOneLaw : Type 0
RingOneLaw = (e : EventNo) (ring : Option RingNo) (owner : Bool) (s : Stage) (i : Instance) → IsNumbered s → original_of s e ≡ Some i
    → change_one (λ j. record j { ring = ring; mapped = owner }) i.id s ≡ set_ring e ring owner s

-- The instance of one id taken away, its siblings freed where it leads; and those of some ids one after the other.
abbrev pub drop_one : ℕ → Stage → Stage
drop_one id s = record s { contexts = map (without (has_id id)) s.contexts }

abbrev pub drop_ones : List ℕ → Stage → Stage
drop_ones ids s = fold (λ t id. drop_one id t) s ids

-- Closing an event takes away the instances of its family, one after the other, in any order.
abbrev pub CloseOneByOneLaw : Type 0
CloseOneByOneLaw = (e : EventNo) (s : Stage) (ids : List ℕ) → IsNumbered s → IsPlaced s
    → AreIdsOf (filter (is_of_family e) (all_instances s)) ids → drop_ones ids s ≡ closed e s

-- So does an exit the copies of its task.
abbrev pub ExitOneByOneLaw : Type 0
ExitOneByOneLaw = (hw : Hardware) (task : TaskNo) (s : Stage) (ids : List ℕ) → IsNumbered s → IsGrouped hw s
    → AreIdsOf (filter is_copy (instances_in s (context.Task task))) ids
    → drop_ones ids s ≡ change_context (context.Task task) (without is_copy) s

-- An instance that a fork copies, whether it leads its group and whether that group is a pinned one. All of them, in
-- the order in which copies are made: the pinned groups that are inherited and then the flexible ones, each leader
-- first.
pub record Parent : Type 0 where
  pub instance : Instance
  pub leads : Bool
  pub pinned : Bool

abbrev pub parents_in : Bool → Group → List Parent
parents_in pinned g = record { instance = g.leader; leads = true; pinned = pinned } ∷ map (λ i. record { instance = i; leads = false; pinned = pinned }) g.siblings

abbrev pub fork_parents : Lists → List Parent
fork_parents l = flat_map (parents_in true) (inherited_groups l.pinned) ++ flat_map (parents_in false) (inherited_groups l.flexible)

-- A copy of a leader goes last as a group of its own, and a copy of a sibling goes last in the last group.
unfoldable pub join_last : Instance → List Group → List Group
join_last i [] = []
join_last i (g ∷ []) = joined i g ∷ []
join_last i (g ∷ h ∷ groups) = g ∷ join_last i (h ∷ groups)

abbrev pub add_sibling : Bool → Instance → Lists → Lists
add_sibling true i l = record l { pinned = join_last i l.pinned }
add_sibling false i l = record l { flexible = join_last i l.flexible }

abbrev pub add_copy : Parent → Instance → Lists → Lists
add_copy p i l = if p.leads then add_group p.pinned (alone i) l else add_sibling p.pinned i l

-- A copy is added to the groups of the child, and its id is drawn; and so are copies of some instances, one after the
-- other.
abbrev pub add_instance : TaskNo → Parent → Instance → Stage → Stage
add_instance child p i s = record (change_context (context.Task child) (add_copy p i) s) { next_id = s.next_id + 1 }

abbrev pub add_copies : TaskNo → List Parent → Stage → Stage
add_copies child parents s = fold (λ t p. add_instance child p (copy_of t t.next_id p.instance) t) s parents

-- Copies that are added leave the originals.
abbrev pub CopiesLeaveOriginalsLaw : Type 0
CopiesLeaveOriginalsLaw = (child : TaskNo) (parents : List Parent) (s : Stage) (e : EventNo) → original_of (add_copies child parents s) e ≡ original_of s e

-- A fork adds a copy of each instance of the inherited groups of the task, one after the other; and the child is there.
abbrev pub ForkOneByOneLaw : Type 0
ForkOneByOneLaw = (cpu : CpuNo) (child : TaskNo) (s : Stage) → IsPlaced s → was_used (status_of s child).state ≡ false
    → set_status child fresh_task (add_copies child (fork_parents (task_lists s (task_on s cpu))) s) ≡ forked cpu child s

-- No two of the instances that are on have one id, nor any two that are ready.
abbrev pub OnOnceLaw : Type 0
OnOnceLaw = (hw : Hardware) (s : Stage) (cpu : CpuNo) (id : ℕ) → HasShape hw s → IsNumbered s → count_by (has_id id) (on_instances hw s cpu) ≤ 1

abbrev pub ReadyOnceLaw : Type 0
ReadyOnceLaw = (hw : Hardware) (s : Stage) (cpu : CpuNo) (id : ℕ) → HasShape hw s → IsNumbered s → count_by (has_id id) (ready_instances s cpu) ≤ 1

-- The instances of an open event are its original and its copies, each once. An event that is not open has none.
pub record IsFamilyOf (original : Instance) (instances : List Instance) : Type 0 where
  pub one_original : filter (λ i. not i.copy) instances ≡ original ∷ []
  pub once : (id : ℕ) → count_by (has_id id) instances ≤ 1

abbrev pub FamilyLaw : Type 0
FamilyLaw = (e : EventNo) (s : Stage) (original : Instance) → IsNumbered s → original_of s e ≡ Some original
    → IsFamilyOf original (filter (is_of_family e) (all_instances s))

abbrev pub NoFamilyLaw : Type 0
NoFamilyLaw = (e : EventNo) (s : Stage) → IsPlaced s → original_of s e ≡ None → filter (is_of_family e) (all_instances s) ≡ []
