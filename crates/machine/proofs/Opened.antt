-- What a world says of an open event, by the key of its original.
use Rattle.std.{specs.Prelude.{◌≡◌, true, Some, None, option_map}, proofs.{Common.{refl, sym, ap, ◌∙◌}, lemmas.Bool.{false≢true}}}
use Rattle.perf_base.specs.declared.{numbers.{EventNo.{EventNo}, Key.{Key}}, standing.Own.{Own}}
use Rattle.perf_base.specs.declared.standing.Own.TheVariants as own
use Rattle.stage_spec.specs.{Effective.{effective}, Hardware.{Hardware}, Reading.{is_error}, Stage.{is_open}, Tables.{in_error_by, in_error, kind_in}}
use Rattle.event_reads.proofs.Opened.{group-by, is-open, original-at}
use Rattle.world_spec.specs.{Kept.{IsKept}, StageOf.{stage_of}, Value.{World, entry_at, family_of, instance_at}}

-- there is none where the slot is not open
pub not-closed : (hw : Hardware) (w : World) (e : EventNo) → IsKept hw w → is_open (stage_of w) e ≡ true → (family_of w e).original ≡ None → ⊥
not-closed hw w e h there none = false≢true (sym (is-open hw w e None h none) ∙ there)

-- An event is in error where its leader is, and nowhere else.
leader-error : (leader mine : Own) → is_error (effective leader mine) ≡ is_error leader
leader-error own.Off mine = refl
leader-error (own.Error cause) mine = refl
leader-error own.Ready own.Off = refl
leader-error own.Ready own.Ready = refl
leader-error own.Ready (own.Error cause) = refl

pub error-by : (hw : Hardware) (w : World) (e : EventNo) (k : Key) → IsKept hw w → (family_of w e).original ≡ Some k
    → is_error (instance_at w (entry_at w k).leader).own ≡ in_error (stage_of w) e
error-by hw w e k h is =
    sym ((λ i. in_error_by (group-by hw w e k h is i) (original-at hw w e k h is i)) ∙ leader-error (instance_at w (entry_at w k).leader).own (instance_at w k).own)

pub kind-by : (hw : Hardware) (w : World) (e : EventNo) (k : Key) → IsKept hw w → (family_of w e).original ≡ Some k → kind_in (stage_of w) e ≡ Some (instance_at w k).attr.kind
kind-by hw w e k h is = ap (option_map (λ i. i.attr.kind)) (original-at hw w e k h is)
