use Rattle.std.proofs.Common.{take}
use Rattle.event_commands.specs.Reaching.{AddsReaching}
use Rattle.event_commands.proofs.reaching.add_copies.Given as goal

abbrev pub invariant-loop-copy : goal.invariant-loop-copy
invariant-loop-copy l = AddsReaching l.world (take l.copy-index l.copy-items) l.fn.cpus l.cpus
