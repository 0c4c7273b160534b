-- inner
-- What holds of every text, whether it is read or not. This project's own profile.
use Rattle.std.specs.Prelude.{◌≡◌, ℕ, ◌⊎◌, List}
use Rattle.perf_base.specs.{declared.reasons.SReason.{SReason}, Scripts.{Scripted}}
use Rattle.script_spec.specs.Texts.{StandsFor, IsRefused}

-- A text stands for at most one script, or is refused at one line for one reason, and never both; and one of the two
-- always holds.
pub record TextLaw : Type 0 where
  pub one_script : (text : List ℕ) (s t : Scripted) → StandsFor text s → StandsFor text t → s ≡ t
  pub one_refusal : (text : List ℕ) (line other : ℕ) (r q : SReason) → IsRefused text line r → IsRefused text other q → (line ≡ other) × (r ≡ q)
  pub never_both : (text : List ℕ) (s : Scripted) (line : ℕ) (r : SReason) → StandsFor text s → IsRefused text line r → ⊥
  pub always_one : (text : List ℕ) → ((s : Scripted) × StandsFor text s) ⊎ ((line : ℕ) × (r : SReason) × IsRefused text line r)
