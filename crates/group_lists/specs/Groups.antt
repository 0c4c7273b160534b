-- inner
-- The groups of one context in their order, after pinned_groups and flexible_groups of kernel/events/core.c.
-- That each kind stands in one list of leaders is this project's own profile.
use Rattle.std.specs.Prelude.{◌≢◌, ℕ, ◌==◌, not, List, filter, AllPairs}
use Rattle.perf_base.specs.declared.numbers.Key.{Key}

-- the leaders of the groups, first to last, and for how many more there is room
pub record Groups : Type 0 where
  pub leaders : List Key
  pub spare : ℕ

-- No leader stands there twice.
abbrev pub IsWithoutRepeats : List Key → Type 0
IsWithoutRepeats leaders = AllPairs (λ a b. a ≢ b) leaders

-- all leaders but one, in the same order
abbrev pub without : Key → List Key → List Key
without leader leaders = filter (λ k. not (k.0 == leader.0)) leaders
