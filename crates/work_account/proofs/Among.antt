-- What is found among lists of keys, one after the other.
use Rattle.std.specs.Prelude.{◌≡◌, List, ◌++◌, map, filter}
use Rattle.std.proofs.{Common.{ap, ◌∙◌}, lemmas.List.{map-append, Elements.{filter-append}}}
use Rattle.perf_base.specs.declared.numbers.Key.{Key}
use Rattle.world_spec.specs.Value.{World}
use Rattle.work_account.specs.{declared.happening.Happening.{Happening}, Visits.{takes, hit_at, hits_among}}

pub hits-append : (x : Happening) (w : World) (xs ys : List Key) → hits_among x w (xs ++ ys) ≡ hits_among x w xs ++ hits_among x w ys
hits-append x w xs ys = ap (map (hit_at x w)) (filter-append (takes x w) xs ys) ∙ map-append (hit_at x w) (filter (takes x w) xs) (filter (takes x w) ys)
