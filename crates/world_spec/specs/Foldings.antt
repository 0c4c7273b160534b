-- inner
-- A copy that is folded goes, and its event has counted with its copies what it had. After sync_child_event and
-- perf_event_exit_event of kernel/events/core.c; the tables are this project's own profile.
use Rattle.std.specs.Prelude.{◌≡◌, ℕ, true}
use Rattle.perf_base.specs.declared.numbers.Key.{Key}
use Rattle.stage_spec.specs.Hardware.{Hardware}
use Rattle.stage_laws.specs.OneByOne.{drop_one}
use Rattle.world_spec.specs.{Value.{World, is_live, instance_at}, StageOf.{stage_of}, Kept.{family_sums, IsKept}, Adding.{folded_away}, Laws.{Keeps}}

-- A copy that is folded is the stage's instance that goes.
abbrev pub FoldLaw : Type 0
FoldLaw = (hw : Hardware) (w : World) (k : Key) → IsKept hw w → is_live w k ≡ true → (instance_at w k).copy ≡ true
    → stage_of (folded_away k w) ≡ drop_one (instance_at w k).id (stage_of w)

abbrev pub FoldKeptLaw : Type 0
FoldKeptLaw = (hw : Hardware) (w : World) (k : Key) → is_live w k ≡ true → (instance_at w k).copy ≡ true → Keeps hw w (folded_away k w)

-- The sums of each family stay.
abbrev pub FoldSumsLaw : Type 0
FoldSumsLaw = (hw : Hardware) (w : World) (k : Key) → IsKept hw w → is_live w k ≡ true → (instance_at w k).copy ≡ true
    → (slot : ℕ) → family_sums (folded_away k w) slot ≡ family_sums w slot
