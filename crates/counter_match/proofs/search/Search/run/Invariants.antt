use Rattle.std.proofs.Common.{◌≡◌, ◌+◌, ◌-◌, ◌*◌, ◌≤◌, length, get_or}
use Rattle.stage_spec.specs.Tight.{masks_of}
use Rattle.counter_match.specs.Search.{IsSearch, IsClosedBelow}
use Rattle.counter_match.proofs.search.Search.run.Given as goal

abbrev pub invariant-loop-position : goal.invariant-loop-position
invariant-loop-position g l = record {
  search : IsSearch (masks_of l.events) l.seats l.self.queue.items l.self.parents.items;
  first : get_or l.self.queue.items 0 0 ≡ get_or l.fn.self.queue.items 0 0;
  closed : IsClosedBelow l.position (masks_of l.events) l.seats l.self.queue.items;
  within : l.position ≤ length l.self.queue.items;
  least : l.fn.steps + l.position ≤ l.steps;
  most : l.steps ≤ l.fn.steps + 16 * l.position;
}

abbrev pub decreases-loop-position : goal.decreases-loop-position
decreases-loop-position g l = 17 - l.position
