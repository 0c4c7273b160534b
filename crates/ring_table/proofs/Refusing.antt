-- For what a mapping and a redirection are refused, by the keys of a world.
use Rattle.std.specs.{Prelude.{◌≡◌, ◌==◌, Bool, true, false, not, ◌&&◌, [], ◌∷◌, Option, Some, None, is_some, is_none, option_map}, List.{list_any}}
use Rattle.std.proofs.{Common.{arith, refl, ap, ◌∙◌}, lemmas.Bool.Decides.{nat_tests}}
use Rattle.perf_base.specs.declared.{numbers.{EventNo.{EventNo}, Key.{Key}, RingNo.{RingNo}}, reasons.Reason.{Reason}}
use Rattle.perf_base.specs.declared.reasons.Reason.TheVariants as reason
use Rattle.stage_spec.specs.{declared.instance.Instance.{Instance}, Flags.{is_inherited}}
use Rattle.stage_spec.specs.{Mapping.{map_refusal, output_refusal, ring_of_instance}, Places.{is_any_cpu, is_same_cpu, is_same_task}}
use Rattle.stage_spec.{specs.{Refusals.{first_of, holds_of, holds_of_both}, Stage.{original_of}}, proofs.Each.{Each}}
use Rattle.stage_laws.proofs.Accepted.{no_reason}
use Rattle.world_spec.{specs.{Value.{World, instance_at, family_of}, StageOf.{stage_of}}, proofs.Families.{open-is, original-is}}
use Rattle.perf_world.specs.Seen.{IsWorld}

-- the first of the reasons, by the tests in their order
abbrev pub map_checks : (closed inherited given busy : Bool) → Option Reason
map_checks closed inherited given busy =
    first_of ((reason.NoEvent, closed) ∷ (reason.Inherit, inherited) ∷ (reason.HasRing, given) ∷ (reason.Busy, busy) ∷ [])

abbrev pub output_checks : (closed same cpu task own none : Bool) → Option Reason
output_checks closed same cpu task own none =
    first_of ((reason.NoEvent, closed) ∷ (reason.SameEvent, same) ∷ (reason.OtherCpu, cpu) ∷ (reason.OtherContext, task) ∷ (reason.HasRing, own) ∷ (reason.NoRing, none) ∷ [])

abbrev pub inherited_anywhere : Instance → Bool
inherited_anywhere i = is_inherited i.attr && is_any_cpu i.attr.cpu

abbrev pub other_cpu : Instance → Instance → Bool
other_cpu i j = not (is_same_cpu i.attr.cpu j.attr.cpu)

abbrev pub other_task_anywhere : Instance → Instance → Bool
other_task_anywhere i j = is_any_cpu i.attr.cpu && is_any_cpu j.attr.cpu && not (is_same_task i.attr.task j.attr.task)

-- the original of a slot on the stage
abbrev its : World → Option Key → Option Instance
its w o = option_map (instance_at w) o

pub original-named : (w : World) (e : EventNo) (o : Option Key) → IsWorld w → (family_of w e).original ≡ o → original_of (stage_of w) e ≡ its w o
original-named w e o h is = original-is w.hardware w e h ∙ ap (its w) is

map-by : (w : World) (e : EventNo) (ring : RingNo) (o : Option Key) → IsWorld w → (family_of w e).original ≡ o
    → map_refusal (stage_of w) e ring
    ≡ map_checks (not (is_some o)) (holds_of inherited_anywhere (its w o)) (is_some (ring_of_instance (its w o))) (list_any (λ r. r.0 == ring.0) w.quiet.mapped)
map-by w e ring o h is = grind (arith, nat_tests, open-is, original-named)

pub map-closed : (w : World) (e : EventNo) (ring : RingNo) → IsWorld w → (family_of w e).original ≡ None → map_refusal (stage_of w) e ring ≡ Some reason.NoEvent
map-closed w e ring h none = map-by w e ring None h none

-- of an event that is open, by what its tests are
pub map-checked : (w : World) (e : EventNo) (ring : RingNo) (k : Key) (inherited given busy : Bool) → IsWorld w → (family_of w e).original ≡ Some k
    → inherited_anywhere (instance_at w k) ≡ inherited → is_some (instance_at w k).ring ≡ given → list_any (λ r. r.0 == ring.0) w.quiet.mapped ≡ busy
    → map_refusal (stage_of w) e ring ≡ map_checks false inherited given busy
map-checked w e ring k inherited given busy h is i g b = map-by w e ring (Some k) h is ∙ (λ t. map_checks false (i t) (g t) (b t))

output-by : (w : World) (e f : EventNo) (o p : Option Key) → IsWorld w → (family_of w e).original ≡ o → (family_of w f).original ≡ p
    → output_refusal (stage_of w) e f
    ≡ output_checks (not (is_some o && is_some p)) (e.0 == f.0) (holds_of_both other_cpu (its w o) (its w p)) (holds_of_both other_task_anywhere (its w o) (its w p))
    (holds_of (λ i. i.mapped) (its w o)) (is_none (ring_of_instance (its w p)))
output-by w e f o p h is to = grind (arith, nat_tests, open-is, original-named)

pub output-closed : (w : World) (e f : EventNo) → IsWorld w → (family_of w e).original ≡ None → output_refusal (stage_of w) e f ≡ Some reason.NoEvent
output-closed w e f h none = output-by w e f None (family_of w f).original h none refl

pub output-to_closed : (w : World) (e f : EventNo) (k : Key) → IsWorld w → (family_of w e).original ≡ Some k → (family_of w f).original ≡ None
    → output_refusal (stage_of w) e f ≡ Some reason.NoEvent
output-to_closed w e f k h is none = output-by w e f (Some k) None h is none

pub same-slot : (e f : EventNo) → e.0 ≡ f.0 → (e.0 == f.0) ≡ true
same-slot e f same = grind (arith, nat_tests, same)

pub other-slot : (e f : EventNo) → (e.0 ≡ f.0 → ⊥) → (e.0 == f.0) ≡ false
other-slot e f apart = grind (arith, nat_tests, apart)

pub output-checked : (w : World) (e f : EventNo) (k q : Key) (same cpu task own none : Bool) → IsWorld w → (family_of w e).original ≡ Some k → (family_of w f).original ≡ Some q
    → (e.0 == f.0) ≡ same → other_cpu (instance_at w k) (instance_at w q) ≡ cpu → other_task_anywhere (instance_at w k) (instance_at w q) ≡ task
    → (instance_at w k).mapped ≡ own → is_none (instance_at w q).ring ≡ none → output_refusal (stage_of w) e f ≡ output_checks false same cpu task own none
output-checked w e f k q same cpu task own none h is to s c t o n = output-by w e f (Some k) (Some q) h is to ∙ (λ x. output_checks false (s x) (c x) (t x) (o x) (n x))

-- a ring that is mapped now was not mapped before
pub not-busy : (w : World) (e : EventNo) (ring : RingNo) → map_refusal (stage_of w) e ring ≡ None → list_any (λ r. r.0 == ring.0) w.quiet.mapped ≡ false
unfolding Each
not-busy w e ring free = grind (arith, nat_tests, no_reason)
