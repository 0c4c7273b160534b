-- What is asked of an event goes by the key of its original.
use Rattle.std.{specs.Prelude.{◌≡◌, is_some, Option, Some, option_map}, proofs.Common.{sym, ap, ◌∙◌}}
use Rattle.perf_base.specs.declared.numbers.{EventNo.{EventNo}, Key.{Key}}
use Rattle.stage_spec.specs.{Effective.{state_in}, Hardware.{Hardware}}
use Rattle.stage_spec.specs.{Replies.{why_of, why_by, why_in}, Stage.{group_of, is_open, original_of}}
use Rattle.world_spec.specs.{Kept.{IsKept}, StageOf.{group_at, stage_of}, Value.{World, entry_at, instance_at, family_of}}
use Rattle.world_spec.proofs.Families.{group-is, open-is, original-is}

-- the slot is open where there is one
pub is-open : (hw : Hardware) (w : World) (e : EventNo) (o : Option Key) → IsKept hw w → (family_of w e).original ≡ o → is_open (stage_of w) e ≡ is_some o
is-open hw w e o h is = open-is hw w e h ∙ ap is_some is

-- its original, and its group
pub original-at : (hw : Hardware) (w : World) (e : EventNo) (k : Key) → IsKept hw w → (family_of w e).original ≡ Some k → original_of (stage_of w) e ≡ Some (instance_at w k)
original-at hw w e k h is = original-is hw w e h ∙ ap (option_map (instance_at w)) is

pub group-by : (hw : Hardware) (w : World) (e : EventNo) (k : Key) → IsKept hw w → (family_of w e).original ≡ Some k → group_of (stage_of w) e ≡ Some (group_at w (entry_at w k).leader)
group-by hw w e k h is = group-is hw w e h ∙ ap (option_map (λ j. group_at w (entry_at w j).leader)) is

pub why-opened : (hw : Hardware) (w : World) (e : EventNo) (k : Key) → IsKept hw w → (family_of w e).original ≡ Some k
    → why_by hw (stage_of w) (group_at w (entry_at w k).leader) (instance_at w k) (state_in (group_at w (entry_at w k).leader) (instance_at w k)) ≡ why_of hw (stage_of w) e
unfolding why_of
why-opened hw w e k h is = sym ((λ i. why_in hw (stage_of w) (group-by hw w e k h is i) (original-at hw w e k h is i)))
