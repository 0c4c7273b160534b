-- What one more step leaves of a remainder.
use Rattle.std.{specs.Prelude.{◌≡◌, ℕ, List, [], ◌∷◌, ◌++◌}, proofs.Common.{refl}}
use Rattle.stage_spec.specs.{Hardware.{Hardware}, Stage.{Stage}, History.{Step, stage_step, stage_after}}
use Rattle.stage_spec.specs.Remainders.{left_by, remainder_from, remainder_of, RemainderLaw}

remainder_from-push : (hw : Hardware) (s : Stage) (left : ℕ) (steps : List Step) (x : Step) (id : ℕ)
    → remainder_from hw s left (steps ++ x ∷ []) id ≡ left_by hw (stage_after hw s steps) x id (remainder_from hw s left steps id)
unfolding remainder_from stage_after
remainder_from-push hw s left [] x id = refl
remainder_from-push hw s left (y ∷ steps) x id = remainder_from-push hw (stage_step hw s y) (left_by hw s y id left) steps x id

pub remainder_of-push : RemainderLaw
unfolding remainder_of
remainder_of-push hw s steps x id = remainder_from-push hw s 0 steps x id
