-- inner
-- Changes of groups keep a world and are the stage's own. After perf_rotate_context, perf_group_attach and
-- perf_group_detach of kernel/events/core.c; the tables are this project's own profile.
use Rattle.std.specs.Prelude.{◌≡◌, ℕ, Bool, true, false}
use Rattle.perf_base.specs.declared.{numbers.Key.{Key}, standing.Context.{Context}}
use Rattle.stage_spec.specs.{Hardware.{Hardware}, Rotation.{first_goes_last}, Stage.{Lists, change_context}}
use Rattle.stage_laws.specs.Sound.{has_id}
use Rattle.world_spec.specs.{Value.{World, entry_at, instance_at}, StageOf.{stage_of}, Kept.{leads, post_at, IsKept}, Changes.{move_last}}
use Rattle.world_spec.specs.Laws.{Keeps}

-- the group whose leader has an id goes last in its list
abbrev pub group_goes_last : Bool → ℕ → Lists → Lists
group_goes_last true id l = record l { pinned = first_goes_last (λ g. has_id id g.leader) l.pinned }
group_goes_last false id l = record l { flexible = first_goes_last (λ g. has_id id g.leader) l.flexible }

-- A key that leads in a context goes last among its pinned or its flexible groups.
abbrev pub MoveLaw : Type 0
MoveLaw = (hw : Hardware) (w : World) (c : Context) (k : Key) → IsKept hw w → leads (post_at w) k ≡ true → (entry_at w k).context ≡ c
    → stage_of (move_last c k w) ≡ change_context c (group_goes_last (entry_at w k).pinned (instance_at w k).id) (stage_of w)

abbrev pub MoveKeptLaw : Type 0
MoveKeptLaw = (hw : Hardware) (w : World) (c : Context) (k : Key) → leads (post_at w) k ≡ true → (entry_at w k).context ≡ c → Keeps hw w (move_last c k w)
