-- inner
-- The copies that a fork makes of the groups of a world. After inherit_group and inherit_event of kernel/events/core.c.
use Rattle.std.specs.Prelude.{◌≡◌, ℕ, ◌+◌, ◌^◌, ◌<◌, ◌≤◌, Bool, true, false, List, [], length, map, flat_map, slice_index_or, if◌then◌else◌}
use Rattle.std.specs.List.{sum_by}
use Rattle.perf_base.specs.declared.numbers.{EventNo.{EventNo}, Key.{Key}, TaskNo.{TaskNo}}
use Rattle.perf_base.specs.declared.standing.Context.TheVariants as context
use Rattle.perf_base.specs.declared.standing.Standing.TheVariants as standing
use Rattle.stage_spec.specs.{Flags.{is_inherited, is_pinned}, Shares.{no_sums}, Stage.{place_of}}
use Rattle.stage_laws.specs.OneByOne.{Parent, add_copies}
use Rattle.world_spec.specs.{Kept.{post_at, leads, is_of_task, copies_in, IsKept}, Copying.{leaders_in}, StageOf.{stage_of}}
use Rattle.world_spec.specs.Value.{World, no_leaders, leaders_of, is_live, entry_at, instance_at, account_at, standing_at, family_of, is_key, times}

-- how many copies a leader's group gets: one of each member where it is inherited; and so those of some leaders
abbrev pub copies_of : World → Key → ℕ
copies_of w k = if is_inherited (instance_at w k).attr then length (entry_at w k).members else 0

abbrev pub copies_of_all : World → List Key → ℕ
copies_of_all w keys = sum_by (copies_of w) keys

-- an instance as one that a fork copies, by its key
abbrev pub parent_of : World → Key → Parent
parent_of w k = record { instance = instance_at w k; leads = is_key k (entry_at w k).leader; pinned = (entry_at w (entry_at w k).leader).pinned }

-- A key that is new names a copy in the child's context, of the event of one of some instances, with an id that was not
-- drawn before, nothing counted and a whole period left. It stands Out.
pub record IsNewCopy (child : TaskNo) (w after : World) (parents : List Key) (k : Key) : Type 0 where
  pub copy : (instance_at after k).copy ≡ true
  pub context : (entry_at after k).context ≡ context.Task child
  pub account : account_at after k ≡ record { sums = no_sums; left = (instance_at after k).attr.period }
  pub standing : standing_at after k ≡ standing.Out
  pub later : w.quiet.next_id ≤ (instance_at after k).id
  pub parent : (q : Key) × (1 ≤ times q parents) × ((instance_at after k).event ≡ (instance_at w q).event)

-- Copies of some instances were added to the child's groups, one after the other. Each key that was there has what it
-- had.
pub record AreCopied (child : TaskNo) (w after : World) (parents : List Key) : Type 0 where
  pub kept : IsKept w.hardware after
  pub stage : stage_of after ≡ add_copies child (map (parent_of w) parents) (stage_of w)
  pub live : (k : Key) → is_live w k ≡ true → is_live after k ≡ true
  pub entries : (k : Key) → is_live w k ≡ true → entry_at after k ≡ entry_at w k
  pub accounts : (k : Key) → is_live w k ≡ true → account_at after k ≡ account_at w k
  pub standings : (k : Key) → is_live w k ≡ true → standing_at after k ≡ standing_at w k
  pub fresh : (k : Key) → is_live w k ≡ false → is_live after k ≡ true → IsNewCopy child w after parents k
  pub contexts : (place : ℕ) → (place ≡ place_of (context.Task child) → ⊥) → slice_index_or after.contexts place no_leaders ≡ slice_index_or w.contexts place no_leaders
  pub originals : (e : EventNo) → (family_of after e).original ≡ (family_of w e).original
  pub folded : after.folded ≡ w.folded
  pub lost : after.lost ≡ w.lost
  pub hardware : after.hardware ≡ w.hardware
  pub quiet : after.quiet ≡ record w.quiet { next_id = w.quiet.next_id + length parents }
  pub few : copies_in after.families ≡ copies_in w.families + length parents

-- The group of a leader may be copied: it stands in a task's context, with pinned or flexible groups by its leader's
-- flag; no event of it has an instance in the child's context; and ids and copies have room.
pub record MayCopy (child : TaskNo) (w : World) (leader : Key) : Type 0 where
  pub leads : leads (post_at w) leader ≡ true
  pub number : child.0 < 64
  pub listed : is_pinned (instance_at w leader).attr ≡ (entry_at w leader).pinned
  pub of_task : is_of_task (entry_at w leader).context ≡ true
  pub none_there : (j k : Key) → is_live w j ≡ true → place_of (entry_at w j).context ≡ 8 + child.0 → 1 ≤ times k (entry_at w leader).members
      → (instance_at w j).event.0 ≡ (instance_at w k).event.0 → ⊥
  pub ids : w.quiet.next_id + length (entry_at w leader).members < 2 ^ 63
  pub few : copies_in w.families + length (entry_at w leader).members ≤ 4096

-- the members of a leader's group where it is inherited; and so those of some leaders, group by group
abbrev pub inherited_members : World → Key → List Key
inherited_members w k = if is_inherited (instance_at w k).attr then (entry_at w k).members else []

abbrev pub inherited_keys : World → List Key → List Key
inherited_keys w keys = flat_map (inherited_members w) keys

-- the leaders of one of the lists of a task
abbrev pub leaders_from : World → TaskNo → Bool → List Key
leaders_from w parent pinned = leaders_in pinned (leaders_of w (context.Task parent))

-- The inherited groups of one of the lists of a task may be copied.
pub record MayCopyList (child parent : TaskNo) (pinned : Bool) (w : World) : Type 0 where
  pub numbers : (child.0 < 64) × (parent.0 < 64) × (parent.0 ≡ child.0 → ⊥)
  pub listed : (k : Key) → 1 ≤ times k (leaders_from w parent pinned) → is_pinned (instance_at w k).attr ≡ (entry_at w k).pinned
  pub none_there : (j k : Key) → is_live w j ≡ true → place_of (entry_at w j).context ≡ 8 + child.0 → 1 ≤ times k (inherited_keys w (leaders_from w parent pinned))
      → (instance_at w j).event.0 ≡ (instance_at w k).event.0 → ⊥
  pub ids : w.quiet.next_id + length (inherited_keys w (leaders_from w parent pinned)) < 2 ^ 63
  pub few : copies_in w.families + length (inherited_keys w (leaders_from w parent pinned)) ≤ 4096

-- What a fork leaves: each key that was there has what it had, and each new one names a copy in the child's context
-- with an id that was not drawn before, which has counted nothing, has a whole period left and stands Out. Each event
-- has the original that it had. Folded sums, lost counts, clocks, seats, slots and rings are as before.
pub record HasForked (child : TaskNo) (w after : World) : Type 0 where
  pub live : (k : Key) → is_live w k ≡ true → is_live after k ≡ true
  pub entries : (k : Key) → is_live w k ≡ true → entry_at after k ≡ entry_at w k
  pub accounts : (k : Key) → is_live w k ≡ true → account_at after k ≡ account_at w k
  pub standings : (k : Key) → is_live w k ≡ true → standing_at after k ≡ standing_at w k
  pub copies : (k : Key) → is_live w k ≡ false → is_live after k ≡ true → (instance_at after k).copy ≡ true
  pub places : (k : Key) → is_live w k ≡ false → is_live after k ≡ true → (entry_at after k).context ≡ context.Task child
  pub fresh : (k : Key) → is_live w k ≡ false → is_live after k ≡ true → account_at after k ≡ record { sums = no_sums; left = (instance_at after k).attr.period }
  pub out : (k : Key) → is_live w k ≡ false → is_live after k ≡ true → standing_at after k ≡ standing.Out
  pub ids : (k : Key) → is_live w k ≡ false → is_live after k ≡ true → w.quiet.next_id ≤ (instance_at after k).id
  pub drawn : w.quiet.next_id ≤ after.quiet.next_id
  pub originals : (e : EventNo) → (family_of after e).original ≡ (family_of w e).original
  pub folded : after.folded ≡ w.folded
  pub lost : after.lost ≡ w.lost
  pub hardware : after.hardware ≡ w.hardware
  pub quiet : after.quiet ≡ record w.quiet { tasks = after.quiet.tasks; next_id = after.quiet.next_id }
