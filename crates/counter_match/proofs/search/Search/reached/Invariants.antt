use Rattle.std.{specs.{Prelude.{nat_eq}, List.{list_any}}, proofs.Common.{◌≡◌, ◌≤◌, ◌++◌, length, map, drop}}
use Rattle.counter_match.specs.Search.{picked}
use Rattle.counter_match.proofs.search.Search.reached.Given as goal

abbrev pub invariant-loop-place : goal.invariant-loop-place
invariant-loop-place l = record {
  all : l.tight ++ map (λ event. event.0) (picked (λ place. list_any (nat_eq place) l.self.queue.items) l.place (drop l.place l.events)) ≡ map (λ event. event.0) (picked (λ place. list_any (nat_eq place) l.self.queue.items) 0 l.events);
  few : length l.tight ≤ l.place;
}
