-- inner
-- Standings that are told to a world, one after the other. This project's own profile.
use Rattle.std.specs.{Prelude.{List, map}, FinMap.{FinMap, insert}, List.{fold}, Ordering.{nat_cmp}}
use Rattle.perf_base.specs.declared.{numbers.Key.{Key}, standing.Standing.{Standing}}
use Rattle.perf_base.specs.declared.standing.Standing.TheVariants as standing
use Rattle.world_spec.specs.Value.{World}

abbrev pub with_standings : FinMap nat_cmp Standing → World → World
with_standings standings w = record w { standings = standings }

-- each leader's group stands as it is told to; and some groups stand out
abbrev pub told_standings : List (Key × Standing) → FinMap nat_cmp Standing → FinMap nat_cmp Standing
told_standings told standings = fold (λ table x. insert table x.0.0 x.1) standings told

abbrev pub out_standings : List Key → FinMap nat_cmp Standing → FinMap nat_cmp Standing
out_standings keys standings = told_standings (map (λ k. (k, standing.Out)) keys) standings
