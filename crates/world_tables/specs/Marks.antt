-- inner
-- Numbers below 256 that are kept in the order in which they came. This project's own profile.
use Rattle.std.specs.{Prelude.{◌≢◌, ℕ, ◌<◌, ◌≤◌, List, All}, List.{AllPairs}}

-- each once, with room for all
pub record AreMarks (numbers : List ℕ) (places : ℕ) : Type 0 where
  pub low : All (λ n. n < 256) numbers
  pub once : AllPairs (λ a b. a ≢ b) numbers
  pub room : 256 ≤ places
