-- The keys of a family and of some families are those of the instances that are reached.
use Rattle.std.specs.Prelude.{◌≡◌, ◌+◌, ◌≤◌, ◌==◌, Bool, true, false, not, ◌&&◌, List, [], ◌∷◌}
use Rattle.std.proofs.{Common.{arith, refl, ◌∙◌, inl, inr}, lemmas.Bool.{cases_Bool, cases_eq, or_left, or_right, false≢true, Decides.{nat_tests}}}
use Rattle.perf_base.specs.declared.numbers.{EventNo.{EventNo}, Key.{Key}}
use Rattle.stage_spec.specs.{Commands.{is_reached}, Hardware.{Hardware}}
use Rattle.stage_laws.proofs.Counts.{count-append}
use Rattle.world_spec.{specs.{Value.{World, is_live, instance_at, is_key, times}, Kept.{once_if, IsKept}}, proofs.Accounts.{family-times}}
use Rattle.world_spec.proofs.{Coming.{number_true}, Keys.{once-true}, Moving.{leads-parts}}
use Rattle.event_commands.specs.Changing.{family_keys, keys_named}
use Rattle.world_spec.proofs.Along.{once-both}
use Rattle.world_spec.proofs.Tables.{same_number}
use Rattle.world_spec.proofs.Counting.{any-rest}

both-kinds : (a b c : Bool) → once_if (a && b && not c) + once_if (a && b && c) ≡ once_if (a && b)
both-kinds true true true = refl
both-kinds true true false = refl
both-kinds true false c = refl
both-kinds false b c = refl

-- a key stands in a family once where it lives in its slot
family-count : (hw : Hardware) (w : World) (e : EventNo) (k : Key) → IsKept hw w → times k (family_keys w e) ≡ once_if (is_live w k && (instance_at w k).event.0 == e.0)
family-count hw w e k h = family-times w h.linked k e.0 ∙ both-kinds (is_live w k) ((instance_at w k).event.0 == e.0) (instance_at w k).copy

pub in-family : (hw : Hardware) (w : World) (e : EventNo) (k : Key) → IsKept hw w → 1 ≤ times k (family_keys w e) → (is_live w k ≡ true) × ((instance_at w k).event.0 ≡ e.0)
in-family hw w e k h some = grind (arith, nat_tests, once-both, family-count, leads-parts, number_true, some, family-count hw w e k h)

pub at-family : (hw : Hardware) (w : World) (e : EventNo) (k : Key) → IsKept hw w → is_live w k ≡ true → ((instance_at w k).event.0 == e.0) ≡ true → 1 ≤ times k (family_keys w e)
at-family hw w e k h live same = grind (arith, nat_tests, family-count, once-true)

-- and in some families where it is reached
pub named-reached : (hw : Hardware) (w : World) (events : List EventNo) (k : Key) → IsKept hw w → 1 ≤ times k (keys_named w events)
    → (is_live w k ≡ true) × (is_reached events (instance_at w k) ≡ true)
named-reached hw w [] k h some = absurd (omega (arith, some))
named-reached hw w (e ∷ events) k h some = elim (cases_eq (times k (family_keys w e)) 0) [
  | inl none ↦
      let rest = named-reached hw w events k h (omega (arith, some, none, count-append (is_key k) (family_keys w e) (keys_named w events))) in
      (rest.0, or_right ((instance_at w k).event.0 == e.0) (is_reached events (instance_at w k)) rest.1)
  | inr more ↦ grind (arith, nat_tests, in-family, more, or_left, same_number)
]

pub reached-named : (hw : Hardware) (w : World) (events : List EventNo) (k : Key) → IsKept hw w → is_live w k ≡ true → is_reached events (instance_at w k) ≡ true → 1 ≤ times k (keys_named w events)
reached-named hw w [] k h live reached = absurd (false≢true reached)
reached-named hw w (e ∷ events) k h live reached = elim (cases_Bool ((instance_at w k).event.0 == e.0)) [
  | inl same ↦ omega (arith, at-family hw w e k h live same, count-append (is_key k) (family_keys w e) (keys_named w events))
  | inr apart ↦
      let rest = reached-named hw w events k h live (any-rest ((instance_at w k).event.0 == e.0) (is_reached events (instance_at w k)) apart reached) in
      omega (arith, rest, count-append (is_key k) (family_keys w e) (keys_named w events))
]
