use Rattle.stage_spec.specs.Tight.{masks_of}
use Rattle.counter_match.specs.Search.{IsShift}
use Rattle.counter_match.proofs.search.Search.hand_back.Given as goal

abbrev pub invariant-loop-position : goal.invariant-loop-position
invariant-loop-position l = IsShift (masks_of l.events) l.fn.seats l.self.queue.items l.seats l.position l.counter

abbrev pub decreases-loop-position : goal.decreases-loop-position
decreases-loop-position l = l.position
