-- inner
-- What the families of a world are on the stage that it stands for. After child_list and perf_event_for_each_child of
-- kernel/events/core.c; that a processor reaches one instance of a family at most is this project's own profile.
use Rattle.std.specs.Prelude.{◌≡◌, true, map, filter, is_some, option_map}
use Rattle.perf_base.specs.declared.{numbers.{CpuNo.{CpuNo}, EventNo.{EventNo}, Key.{Key}}, reply.Sums.{Sums}}
use Rattle.stage_spec.specs.{declared.instance.Instance.{Instance}, Families.{plus_each}, Hardware.{Hardware}}
use Rattle.stage_spec.specs.Stage.{all_instances, is_of_family, is_open, live_copies, original_of, group_of}
use Rattle.stage_laws.specs.{Narrowing.{has_context}, OneByOne.{AreIdsOf}}
use Rattle.world_spec.specs.{Value.{World, is_live, entry_at, instance_at, family_of}, StageOf.{group_at, stage_of}}
use Rattle.world_spec.specs.Kept.{copies_in, keys_of, plus_keys, IsKept}

-- A processor reaches at most one instance of a family: two of one slot, each in its own context or that of the task on
-- it, are one.
abbrev pub OneReachedLaw : Type 0
OneReachedLaw = (hw : Hardware) (w : World) (cpu : CpuNo) (j k : Key) → IsKept hw w → is_live w j ≡ true → is_live w k ≡ true
    → (instance_at w j).event.0 ≡ (instance_at w k).event.0
    → has_context (stage_of w) cpu (entry_at w j).context ≡ true → has_context (stage_of w) cpu (entry_at w k).context ≡ true → j ≡ k

-- The original in a slot is that of the family, and its group is its leader's. The slot is open where there is one.
abbrev pub OriginalLaw : Type 0
OriginalLaw = (hw : Hardware) (w : World) (e : EventNo) → IsKept hw w → original_of (stage_of w) e ≡ option_map (instance_at w) (family_of w e).original

abbrev pub OpenSlotLaw : Type 0
OpenSlotLaw = (hw : Hardware) (w : World) (e : EventNo) → IsKept hw w → is_open (stage_of w) e ≡ is_some (family_of w e).original

abbrev pub GroupLaw : Type 0
GroupLaw = (hw : Hardware) (w : World) (e : EventNo) → IsKept hw w → group_of (stage_of w) e ≡ option_map (λ k. group_at w (entry_at w k).leader) (family_of w e).original

-- The instances of a family on the stage are those of its keys: one each, and so with the same sums.
abbrev pub FamilyIdsLaw : Type 0
FamilyIdsLaw = (hw : Hardware) (w : World) (e : EventNo) → IsKept hw w
    → AreIdsOf (filter (is_of_family e) (all_instances (stage_of w))) (map (λ k. (instance_at w k).id) (keys_of (family_of w e)))

abbrev pub FamilySumsLaw : Type 0
FamilySumsLaw = (hw : Hardware) (w : World) (e : EventNo) (f : Instance → Sums) → IsKept hw w
    → plus_each f (filter (is_of_family e) (all_instances (stage_of w))) ≡ plus_keys (λ k. f (instance_at w k)) (keys_of (family_of w e))

-- The copies on the stage are as many as those of all families.
abbrev pub CopiesLaw : Type 0
CopiesLaw = (hw : Hardware) (w : World) → IsKept hw w → live_copies (stage_of w) ≡ copies_in w.families
