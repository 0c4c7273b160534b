-- The slots that a command names, as they are told.
use Rattle.std.specs.Prelude.{◌≡◌, true, false, [], ◌∷◌, map, Some}
use Rattle.std.proofs.{Common.{arith, ap}, lemmas.Simd.{map-map}}
use Rattle.perf_base.specs.declared.numbers.{EventNo.{EventNo}, Key.{Key}}
use Rattle.stage_spec.specs.{Commands.{targets}, Hardware.{Hardware}}
use Rattle.stage_laws.proofs.Counts.{count-append}
use Rattle.world_spec.specs.Value.{World, is_live, entry_at, instance_at, family_of}
use Rattle.world_spec.specs.{Kept.{IsKept}, StageOf.{stage_of}}
use Rattle.world_spec.proofs.{Families.{group-is, group-members}, Keys.{is_key-same, once-true, times-cons}}
use Rattle.event_commands.proofs.Named.{in-family}

-- the original of an open event is an instance in its slot
pub original-in : (hw : Hardware) (w : World) (e : EventNo) (k : Key) → IsKept hw w → (family_of w e).original ≡ Some k → (is_live w k ≡ true) × ((instance_at w k).event ≡ e)
original-in hw w e k h some = grind (arith, times-cons, once-true, is_key-same, in-family, count-append)

-- what is told of the slots
pub one-slot : (hw : Hardware) (w : World) (e : EventNo) (k : Key) → IsKept hw w → (family_of w e).original ≡ Some k → map (λ q. (instance_at w q).event) (k ∷ []) ≡ targets (stage_of w) e false
one-slot hw w e k h some = ap (λ x. x ∷ []) (original-in hw w e k h some).1

pub group-slots : (hw : Hardware) (w : World) (e : EventNo) (k : Key) → IsKept hw w → (family_of w e).original ≡ Some k
    → map (λ q. (instance_at w q).event) (entry_at w (entry_at w k).leader).members ≡ targets (stage_of w) e true
group-slots hw w e k h some = grind (arith, original-in, group-is, group-members, map-map)
