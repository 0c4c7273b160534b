-- inner
-- A copy that a fork makes of an instance is the definitions' own. After inherit_event and inherit_group of
-- kernel/events/core.c; the tables are this project's own profile.
use Rattle.std.specs.Prelude.{◌≡◌, Bool, true, false, List, [], ◌∷◌, ◌++◌, Option, Some, None}
use Rattle.perf_base.specs.declared.numbers.{Key.{Key}, TaskNo.{TaskNo}}
use Rattle.perf_base.specs.declared.standing.Context.TheVariants as context
use Rattle.stage_spec.specs.{declared.instance.Instance.{Instance}, Flags.{is_pinned}, Forks.{copied_state, copy_of, present_period}}
use Rattle.stage_spec.specs.{Hardware.{Hardware}, Stage.{original_of}}
use Rattle.stage_laws.specs.OneByOne.{Parent, add_instance}
use Rattle.world_spec.specs.{Value.{World, Leaders, leaders_of}, StageOf.{stage_of}, Kept.{IsKept}, Adding.{Newcomer, add}, Changes.{set_own}}
use Rattle.world_spec.specs.{Comings.{MayCome, IsOfOriginal, HasRoom}, Laws.{Keeps}}

-- the copy of an instance, in the child's context, with the original's present period
abbrev pub copy_from : World → TaskNo → Instance → Option Key → Newcomer
copy_from w child i leader = record {
  event = i.event;
  attr = record i.attr { period = present_period (original_of (stage_of w) i.event) i.attr };
  copy = true;
  context = context.Task child;
  leader = leader;
}

-- the leaders of one of the two lists
abbrev pub leaders_in : Bool → Leaders → List Key
leaders_in true l = l.pinned
leaders_in false l = l.flexible

-- The copy of a leader has no leader, and goes into the list of its flag. The copy of a sibling joins the last group of
-- the list.
pub record LeadsLast (l : Leaders) (pinned : Bool) (leader : Key) : Type 0 where
  pub before : List Key
  pub last : leaders_in pinned l ≡ before ++ leader ∷ []

abbrev pub FollowsParent : World → TaskNo → Parent → Option Key → Type 0
FollowsParent w child p None = (p.leads ≡ true) × (is_pinned p.instance.attr ≡ p.pinned)
FollowsParent w child p (Some leader) = (p.leads ≡ false) × LeadsLast (leaders_of w (context.Task child)) p.pinned leader

-- a copy comes, and is ready where the instance before it is, and else off
abbrev pub copy_comes : Key → TaskNo → Instance → Option Key → World → World
copy_comes k child i leader w = set_own k (copied_state i.own) (add k (copy_from w child i leader) w)

-- It is the definitions' copy, with the next id, at its place in the child's context.
abbrev pub CopyLaw : Type 0
CopyLaw = (hw : Hardware) (w : World) (k : Key) (child : TaskNo) (p : Parent) (leader : Option Key) → IsKept hw w
    → MayCome hw w k (copy_from w child p.instance leader) → IsOfOriginal w (copy_from w child p.instance leader) → HasRoom w (copy_from w child p.instance leader) leader
    → FollowsParent w child p leader
    → stage_of (copy_comes k child p.instance leader w) ≡ add_instance child p (copy_of (stage_of w) w.quiet.next_id p.instance) (stage_of w)

abbrev pub CopyKeptLaw : Type 0
CopyKeptLaw = (hw : Hardware) (w : World) (k : Key) (child : TaskNo) (i : Instance) (leader : Option Key)
    → MayCome hw w k (copy_from w child i leader) → IsOfOriginal w (copy_from w child i leader) → HasRoom w (copy_from w child i leader) leader
    → Keeps hw w (copy_comes k child i leader w)
