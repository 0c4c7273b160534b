-- inner
-- What happens to each table of a world where an instance comes or goes. This project's own profile.
use Rattle.std.specs.Prelude.{◌≡◌, ◌+◌, ◌^◌, ◌<◌, ◌≤◌, Bool, true, false, is_some, List, [], ◌∷◌, ◌++◌, length, Option, Some, None, slice_index_or, slice_set}
use Rattle.std.specs.List.{fold}
use Rattle.perf_base.specs.{Scripts.{IsKind}, declared.{attr.Attr.{Attr}, numbers.{EventNo.{EventNo}, Key.{Key}}, standing.Context.{Context}}}
use Rattle.perf_base.specs.declared.standing.Standing.TheVariants as standing
use Rattle.stage_spec.specs.{declared.instance.Instance.{Instance}, Checks.{has_unknown_sample}, Flags.{is_pinned}, Stage.{place_of}}
use Rattle.world_spec.specs.{Value.{World, Leaders, no_leaders, is_live, entry_at, instance_at, times}, StageOf.{after_first}, Kept.{AreFitting}}
use Rattle.world_spec.specs.{Adding.{Newcomer}, Changes.{in_list, all_but}, Comings.{new_kinds, IsOfOriginal, HasRoom}}
use Rattle.world_tables.specs.Columns.{Columns, entry_in, put_entry, put_standing, put_row}
use Rattle.world_tables.specs.Rows.{fresh_row, leader_entry, sibling_entry, freed_entry}

-- an instance that is opened in a slot, or a copy of the original there
abbrev pub newcomer : EventNo → Attr → Option Key → Option Key → Context → Newcomer
newcomer e attr leader origin c = record { event = e; attr = attr; copy = is_some origin; context = c; leader = leader }

-- An instance may come: its slot and context have places, its sample bits are known and its kind is one of the
-- machine's; the context has none of the family; its group fits with it, of one PMU; ids have room; the slot was not
-- used and the context is the one that the attribute names, or the original is there; and its leader has room.
pub record MayAdd (w : World) (n : Newcomer) : Type 0 where
  pub slot : n.event.0 < 256
  pub place : place_of n.context < 72
  pub known : has_unknown_sample n.attr ≡ false
  pub kind : IsKind (length w.hardware.kind_pmus) n.attr.kind
  pub first_there : (j : Key) → is_live w j ≡ true → (instance_at w j).event.0 ≡ n.event.0 → place_of (entry_at w j).context ≡ place_of n.context → ⊥
  pub fitting : AreFitting w.hardware (new_kinds w n n.leader)
  pub ids : w.quiet.next_id + 1 < 2 ^ 63
  pub original : IsOfOriginal w n
  pub group : HasRoom w n n.leader

-- the events with one more: the leader of a group of its own, or a member of its leader's group
abbrev pub joined_events : Key → Instance → Context → Option Key → Columns → Columns
joined_events k i c None t = put_row k (fresh_row (leader_entry k i c (is_pinned i.attr))) t
joined_events k i c (Some leader) t =
    put_row k (fresh_row (sibling_entry i c leader (entry_in t leader).pinned))
    (put_entry leader (record (entry_in t leader) { members = (entry_in t leader).members ++ k ∷ [] }) t)

-- the leaders of the contexts then
abbrev pub joined_contexts : Key → Instance → Context → Option Key → List Leaders → List Leaders
joined_contexts k i c None contexts =
    slice_set contexts (place_of c) (in_list (is_pinned i.attr) (λ keys. keys ++ k ∷ []) (slice_index_or contexts (place_of c) no_leaders))
joined_contexts k i c (Some leader) contexts = contexts

-- a sibling leads a group of its own
abbrev pub free_one : Columns → Key → Columns
free_one t k = put_standing k standing.Out (put_entry k (freed_entry k (entry_in t k)) t)

-- an event leaves its group: as the leader, or as a sibling
abbrev pub left_events : Bool → Key → Columns → Columns
left_events true k t = fold free_one t (after_first (entry_in t k).members)
left_events false k t = put_entry (entry_in t k).leader
    (record (entry_in t (entry_in t k).leader) { members = all_but k (entry_in t (entry_in t k).leader).members }) t

-- the leaders of one context with some more behind the flexible ones
abbrev pub behind : List Key → Leaders → Leaders
behind keys l = record l { flexible = l.flexible ++ keys }

abbrev pub left_contexts : Bool → Key → Columns → List Leaders → List Leaders
left_contexts true k t contexts =
    slice_set contexts (place_of (entry_in t k).context)
    (behind (after_first (entry_in t k).members) (in_list (entry_in t k).pinned (all_but k) (slice_index_or contexts (place_of (entry_in t k).context) no_leaders)))
left_contexts false k t contexts = contexts

-- there is room for some more leaders behind the flexible ones of a place, and none of them is there
pub record HaveRoomBehind (keys : List Key) (l : Leaders) : Type 0 where
  pub once : (k : Key) → times k (l.flexible ++ keys) ≤ 1
  pub few : length (l.flexible ++ keys) ≤ 256
