-- inner
-- What reading a text gives. This project's own profile.
use Rattle.std.specs.Prelude.{◌≡◌, ℕ, List, Option, Some, IfSome}

-- the value in range that is written so, whenever there is one: so there is none exactly where no value in
-- range is written so
pub record Reads {A : Type 0} (IsInRange : A → Type 0) (written : A → List ℕ) (text : List ℕ) (r : Option A) : Type 0 where
  pub sound : IfSome r (λ a. IsInRange a × (text ≡ written a))
  pub exact : (a : A) → IsInRange a → text ≡ written a → r ≡ Some a
