-- inner
-- An instance that goes leaves a world kept, and is the stage's own instance that goes. After perf_group_detach and
-- list_del_event of kernel/events/core.c; the tables are this project's own profile.
use Rattle.std.specs.Prelude.{◌≡◌, true, false}
use Rattle.perf_base.specs.declared.numbers.Key.{Key}
use Rattle.stage_spec.specs.Hardware.{Hardware}
use Rattle.stage_laws.specs.OneByOne.{drop_one}
use Rattle.world_spec.specs.{Value.{World, is_live, instance_at}, StageOf.{stage_of}, Kept.{post_at, is_copy_in, IsKept}, Adding.{drop_instance}}
use Rattle.world_spec.specs.Laws.{Keeps}

-- The key names an instance. An original goes after its copies.
pub record MayGo (w : World) (k : Key) : Type 0 where
  pub live : is_live w k ≡ true
  pub last : (instance_at w k).copy ≡ false → (j : Key) → is_copy_in (post_at w) (instance_at w k).event.0 j ≡ false

-- An instance that goes, a sibling or a leader, is the stage's: siblings of a leader become groups of their own behind
-- the flexible ones.
abbrev pub GoLaw : Type 0
GoLaw = (hw : Hardware) (w : World) (k : Key) → IsKept hw w → MayGo w k → stage_of (drop_instance k w) ≡ drop_one (instance_at w k).id (stage_of w)

abbrev pub GoKeptLaw : Type 0
GoKeptLaw = (hw : Hardware) (w : World) (k : Key) → MayGo w k → Keeps hw w (drop_instance k w)
