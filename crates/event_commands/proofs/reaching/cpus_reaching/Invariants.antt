use Rattle.std.proofs.Common.{take}
use Rattle.event_commands.specs.{Changing.{keys_named}, Reaching.{AddsReaching}}
use Rattle.event_commands.proofs.reaching.cpus_reaching.Given as goal

abbrev pub invariant-loop-slot : goal.invariant-loop-slot
invariant-loop-slot l = AddsReaching l.world (keys_named l.world (take l.slot-index l.slots)) l.initial.cpus l.cpus
