-- An instance that comes, in the tables of a world.
use Rattle.std.{specs.Prelude.{◌≡◌, ℕ, ◌+◌, false, is_some, List, [], ◌∷◌, ◌++◌, Option, Some, None, if◌then◌else◌}, proofs.Common.{refl}}
use Rattle.perf_base.specs.declared.{attr.Attr.{Attr}, numbers.{EventNo.{EventNo}, Key.{Key}, RingNo.{RingNo}}, standing.Context.{Context}}
use Rattle.stage_spec.specs.{declared.instance.TaskStatus.{TaskStatus}, Hardware.{Hardware}}
use Rattle.world_spec.specs.{Value.{World, Leaders, is_live}, Kept.{IsKept}, Adding.{Newcomer, new_instance, in_family, add}, Comings.{MayCome}}
use Rattle.world_tables.specs.{Columns.{Columns}, Places.{Slots, Places, with_family}}
use Rattle.perf_world.specs.{Parts.{newcomer, MayAdd, joined_events, joined_contexts}, Seen.{seen, IsWorld}}

pub added : (hw : Hardware) (t : Columns) (contexts : List Leaders) (families : Slots) (processors : Places) (tasks : List TaskStatus) (used : List EventNo) (mapped : List RingNo) (next : ℕ)
    (k : Key) (e : EventNo) (a : Attr) (leader origin : Option Key) (c : Context)
    → seen hw (joined_events k (new_instance (seen hw t contexts families processors tasks used mapped next) (newcomer e a leader origin c)) c leader t)
    (joined_contexts k (new_instance (seen hw t contexts families processors tasks used mapped next) (newcomer e a leader origin c)) c leader contexts)
    (with_family e.0 (in_family (is_some origin) k) families) processors tasks (if is_some origin then used else used ++ e ∷ []) mapped (next + 1)
    ≡ add k (newcomer e a leader origin c) (seen hw t contexts families processors tasks used mapped next)
added hw t contexts families processors tasks used mapped next k e a None origin c = refl
added hw t contexts families processors tasks used mapped next k e a (Some leader) origin c = refl

pub added-kept : (k : Key) (e : EventNo) (a : Attr) (leader origin : Option Key) (c : Context) (w : World)
    → IsKept w.hardware (add k (newcomer e a leader origin c) w) → IsWorld (add k (newcomer e a leader origin c) w)
added-kept k e a None origin c w h = h
added-kept k e a (Some leader) origin c w h = h

pub may-come : (w : World) (n : Newcomer) (k : Key) → MayAdd w n → is_live w k ≡ false → MayCome w.hardware w k n
may-come w n k h fresh = record { fresh = fresh; slot = h.slot; place = h.place; known = h.known; kind = h.kind; first_there = h.first_there; fitting = h.fitting; room = h.ids }
