use Rattle.std.proofs.Common.{◌≡◌, ◌+◌}
use Rattle.stage_spec.specs.Tight.{masks_of}
use Rattle.counter_match.specs.Search.{IsSearch, IsExtended, IsClosedAt}
use Rattle.counter_match.proofs.search.Search.look_at.Given as goal

abbrev pub invariant-loop-counter : goal.invariant-loop-counter
invariant-loop-counter g l = record {
  search : IsSearch (masks_of l.events) l.seats l.self.queue.items l.self.parents.items;
  extended : IsExtended l.fn.self.queue.items l.self.queue.items;
  closed : IsClosedAt l.position l.counter (masks_of l.events) l.seats l.self.queue.items;
  counted : l.steps ≡ l.fn.steps + l.counter;
}
