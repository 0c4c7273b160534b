use Rattle.std.{proofs.Common.{◌≡◌, take}, specs.List.{zip}}
use Rattle.counter_match.specs.Seating.{slots_of}
use Rattle.counter_match.proofs.seating.Seating.list.Given as goal

abbrev pub invariant-loop-place : goal.invariant-loop-place
invariant-loop-place l = l.list ≡ zip (slots_of (take l.place l.self.events)) (take l.place l.self.seats)
