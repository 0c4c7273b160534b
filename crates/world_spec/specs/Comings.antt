-- inner
-- An instance that comes keeps a world and is the stage's own new instance. After perf_install_in_context,
-- perf_group_attach and inherit_event of kernel/events/core.c; the tables are this project's own profile.
use Rattle.std.specs.Prelude.{◌≡◌, ℕ, ◌+◌, ◌^◌, ◌<◌, true, false, List, [], ◌∷◌, ◌++◌, length, map, Option, Some, None, if◌then◌else◌}
use Rattle.perf_base.specs.{Scripts.{IsKind}, declared.{attr.Kind.{Kind}, numbers.{EventNo.{EventNo}, Key.{Key}}}, Contexts.{context_of}}
use Rattle.stage_spec.specs.{declared.instance.Instance.{Instance}, Checks.{has_unknown_sample}, Flags.{is_pinned}, Hardware.{Hardware}}
use Rattle.stage_spec.specs.{Opening.{is_used, joined, add_group, opened}, Stage.{Stage, Group, Lists, alone, place_of, change_context}}
use Rattle.stage_laws.specs.Sound.{has_id}
use Rattle.world_spec.specs.{Value.{World, is_live, entry_at, instance_at}, StageOf.{stage_of}}
use Rattle.world_spec.specs.Kept.{leads, post_at, is_original_in, is_of_task, kinds_in, copies_in, AreFitting, IsKept}
use Rattle.world_spec.specs.{Adding.{Newcomer, new_instance, add}, Laws.{Keeps}}

-- the kinds of the group that a newcomer comes into, and its own
abbrev pub new_kinds : World → Newcomer → Option Key → List Kind
new_kinds w n None = n.attr.kind ∷ []
new_kinds w n (Some leader) = kinds_in (post_at w) leader ++ n.attr.kind ∷ []

-- The key names nothing; the kind is one of the machine's; the context has none of the family; the group fits with it;
-- ids have room.
pub record MayCome (hw : Hardware) (w : World) (k : Key) (n : Newcomer) : Type 0 where
  pub fresh : is_live w k ≡ false
  pub slot : n.event.0 < 256
  pub place : place_of n.context < 72
  pub known : has_unknown_sample n.attr ≡ false
  pub kind : IsKind (length w.hardware.kind_pmus) n.attr.kind
  pub first_there : (j : Key) → is_live w j ≡ true → (instance_at w j).event.0 ≡ n.event.0 → place_of (entry_at w j).context ≡ place_of n.context → ⊥
  pub fitting : AreFitting hw (new_kinds w n n.leader)
  pub room : w.quiet.next_id + 1 < 2 ^ 63

-- The slot of a new original was not used, and its context is the one that its attribute names. A copy and its
-- original, which is there, stand in contexts of tasks, and there are fewer than 4,096 copies.
pub record IsOfOriginal (w : World) (n : Newcomer) : Type 0 where
  pub unused : n.copy ≡ false → is_used (stage_of w) n.event ≡ false
  pub placed : n.copy ≡ false → n.context ≡ context_of n.attr
  pub of_task : n.copy ≡ true → is_of_task n.context ≡ true
  pub few : n.copy ≡ true → copies_in w.families < 4096
  pub original : n.copy ≡ true → (j : Key) × (is_original_in (post_at w) n.event.0 j ≡ true) × (is_of_task (entry_at w j).context ≡ true)

-- a leader that is given leads in that context, and its group has room
abbrev pub HasRoom : World → Newcomer → Option Key → Type 0
HasRoom w n None = Unit {0}
HasRoom w n (Some leader) = (leads (post_at w) leader ≡ true) × ((entry_at w leader).context ≡ n.context) × (length (entry_at w leader).members < 8)

-- a sibling joins the group whose leader has an id
abbrev pub join_id : ℕ → Instance → Group → Group
join_id id i g = if has_id id g.leader then joined i g else g

abbrev pub join_lists_id : ℕ → Instance → Lists → Lists
join_lists_id id i l = record { pinned = map (join_id id i) l.pinned; flexible = map (join_id id i) l.flexible }

-- The instance is a group of its own, or joins its leader's group; an original uses up its slot, and the id is drawn.
abbrev pub instance_comes : World → Newcomer → Option Key → Stage → Stage
instance_comes w n None s = change_context n.context (add_group (is_pinned n.attr) (alone (new_instance w n))) s
instance_comes w n (Some leader) s = record s { contexts = map (join_lists_id (instance_at w leader).id (new_instance w n)) s.contexts }

abbrev pub counted_in : Newcomer → Stage → Stage
counted_in n s = record s { used = if n.copy then s.used else s.used ++ n.event ∷ []; next_id = s.next_id + 1 }

abbrev pub AddLaw : Type 0
AddLaw = (hw : Hardware) (w : World) (k : Key) (n : Newcomer) → IsKept hw w → MayCome hw w k n → HasRoom w n n.leader
    → stage_of (add k n w) ≡ counted_in n (instance_comes w n n.leader (stage_of w))

abbrev pub AddKeptLaw : Type 0
AddKeptLaw = (hw : Hardware) (w : World) (k : Key) (n : Newcomer) → MayCome hw w k n → IsOfOriginal w n → HasRoom w n n.leader → Keeps hw w (add k n w)

-- Where the instance is an original in the context that its attribute names, and its leader is one too, the stage is
-- what opening it makes.
abbrev pub slot_led : World → Option Key → Option EventNo
slot_led w None = None
slot_led w (Some leader) = Some (instance_at w leader).event

abbrev pub IsLedByOriginal : World → Option Key → Type 0
IsLedByOriginal w None = Unit {0}
IsLedByOriginal w (Some leader) = (instance_at w leader).copy ≡ false

abbrev pub OpenLaw : Type 0
OpenLaw = (hw : Hardware) (w : World) (k : Key) (n : Newcomer) → IsKept hw w → MayCome hw w k n → HasRoom w n n.leader
    → n.copy ≡ false → context_of n.attr ≡ n.context → IsLedByOriginal w n.leader
    → stage_of (add k n w) ≡ opened (stage_of w) n.event n.attr (slot_led w n.leader)
