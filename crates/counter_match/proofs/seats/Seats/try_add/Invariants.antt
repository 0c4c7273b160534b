use Rattle.std.proofs.Common.{◌≡◌, ◌+◌, ◌*◌, ◌≤◌, ◌++◌, take}
use Rattle.counter_match.specs.Stored.{IsSeating, events_of}
use Rattle.counter_match.proofs.seats.Seats.try_add.Given as goal

abbrev pub invariant-loop-event : goal.invariant-loop-event
invariant-loop-event g l = record {
  seating : IsSeating l.self-inside.counters l.seating;
  events : events_of l.seating ≡ l.fn.self.events ++ take l.event-index l.group;
  least : l.fn.steps + l.event-index ≤ l.steps;
  most : l.steps ≤ l.fn.steps + 272 * l.event-index;
}
