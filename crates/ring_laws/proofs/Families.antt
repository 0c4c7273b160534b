-- On a sound stage the slot of each instance is open: an original is there itself, and the original of a copy is.
use Rattle.std.{specs.Prelude.{◌≡◌, Bool, true, false}, proofs.{Common.{arith, refl, get_or}, lemmas.Bool.Decides.{nat_tests}}}
use Rattle.std.proofs.lemmas.List.Folds.{list_any_at}
use Rattle.stage_spec.{specs.{declared.instance.Instance.{Instance}, Stage.{all_instances, is_open, is_original}}, proofs.Present.{find-any}}
use Rattle.ring_laws.specs.Families.{FamiliesOpenLaw}

pub families_open : FamiliesOpenLaw
families_open hw s sound k d l = one (get_or (all_instances s) k d).copy refl
  where
    i : Instance
    i = get_or (all_instances s) k d

    one : (b : Bool) → i.copy ≡ b → is_open s i.event ≡ true
    one true e = let original = sound.placed.of_original k d l e in find-any (is_original i.event) (all_instances s) original.0 original.1
    one false e = list_any_at (is_original i.event) (all_instances s) k d l (grind (arith, nat_tests, e))
