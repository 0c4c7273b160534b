-- inner
-- What stays when an instance comes or goes: all other instances with their contexts and accounts, and all that is no
-- family's. After list_del_event and perf_install_in_context of kernel/events/core.c; the tables are this project's own
-- profile.
use Rattle.std.specs.Prelude.{◌≡◌, ℕ, true, false, Some, slice_index_or}
use Rattle.perf_base.specs.declared.numbers.{EventNo.{EventNo}, Key.{Key}}
use Rattle.perf_base.specs.declared.standing.Standing.TheVariants as standing
use Rattle.stage_spec.specs.{Hardware.{Hardware}, Shares.{no_sums}}
use Rattle.world_spec.specs.{Value.{World, is_live, entry_at, instance_at, account_at, standing_at, family_of}, Kept.{IsKept}}
use Rattle.world_spec.specs.{Adding.{Newcomer, new_instance, add, drop_instance, folded_away}, Comings.{MayCome, HasRoom}, Goings.{MayGo}}

-- each other key names what it named, in its context and with its account; and each other slot has its family
pub record OthersStay (w after : World) (k : Key) : Type 0 where
  pub live : (j : Key) → (j.0 ≡ k.0 → ⊥) → is_live after j ≡ is_live w j
  pub instances : (j : Key) → (j.0 ≡ k.0 → ⊥) → instance_at after j ≡ instance_at w j
  pub contexts : (j : Key) → (j.0 ≡ k.0 → ⊥) → (entry_at after j).context ≡ (entry_at w j).context
  pub accounts : (j : Key) → (j.0 ≡ k.0 → ⊥) → account_at after j ≡ account_at w j
  pub lost : after.lost ≡ w.lost

-- A key that goes names nothing then. Its own family alone changes.
pub record HasGone (w after : World) (k : Key) : Type 0 where
  pub dead : is_live after k ≡ false
  pub others : OthersStay w after k
  pub families : (e : EventNo) → (e.0 ≡ (instance_at w k).event.0 → ⊥) → family_of after e ≡ family_of w e
  pub folded : (slot : ℕ) → (slot ≡ (instance_at w k).event.0 → ⊥) → slice_index_or after.folded slot no_sums ≡ slice_index_or w.folded slot no_sums
  pub quiet : after.quiet ≡ w.quiet

abbrev pub GoStaysLaw : Type 0
GoStaysLaw = (hw : Hardware) (w : World) (k : Key) → IsKept hw w → MayGo w k → HasGone w (drop_instance k w) k

abbrev pub FoldStaysLaw : Type 0
FoldStaysLaw = (hw : Hardware) (w : World) (k : Key) → IsKept hw w → is_live w k ≡ true → (instance_at w k).copy ≡ true → HasGone w (folded_away k w) k

-- A key that comes names the new instance, in its context, with nothing counted and a whole period left, and stands
-- Out.
pub record HasCome (w after : World) (k : Key) (n : Newcomer) : Type 0 where
  pub live : is_live after k ≡ true
  pub instance : instance_at after k ≡ new_instance w n
  pub context : (entry_at after k).context ≡ n.context
  pub account : account_at after k ≡ record { sums = no_sums; left = n.attr.period }
  pub standing : standing_at after k ≡ standing.Out
  pub others : OthersStay w after k
  pub families : (e : EventNo) → (e.0 ≡ n.event.0 → ⊥) → family_of after e ≡ family_of w e
  pub folded : after.folded ≡ w.folded

abbrev pub AddStaysLaw : Type 0
AddStaysLaw = (hw : Hardware) (w : World) (k : Key) (n : Newcomer) → IsKept hw w → MayCome hw w k n → HasRoom w n n.leader → HasCome w (add k n w) k n

-- The original of an instance is there: the one that its slot's family names.
pub record IsOriginalOf (w : World) (k original : Key) : Type 0 where
  pub named : (family_of w (instance_at w k).event).original ≡ Some original
  pub live : is_live w original ≡ true
  pub first : (instance_at w original).copy ≡ false
  pub event : (instance_at w original).event ≡ (instance_at w k).event

abbrev pub OriginLaw : Type 0
OriginLaw = (hw : Hardware) (w : World) (k : Key) → IsKept hw w → is_live w k ≡ true → (original : Key) × IsOriginalOf w k original
