use Rattle.std.proofs.Common.{take}
use Rattle.perf_world.specs.Settling.{HasSettled}
use Rattle.perf_world.proofs.settling.settle_each.Given as goal

abbrev pub invariant-loop-key : goal.invariant-loop-key
invariant-loop-key l = HasSettled (take l.key-index l.keys) l.processors l.fn.events l.events
