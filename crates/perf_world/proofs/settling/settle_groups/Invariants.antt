use Rattle.std.proofs.Common.{take}
use Rattle.perf_world.specs.Settling.{list_keys, HasSettled}
use Rattle.perf_world.proofs.settling.settle_groups.Given as goal

abbrev pub invariant-loop-leader : goal.invariant-loop-leader
invariant-loop-leader l = HasSettled (list_keys l.fn.events (take l.leader-index l.leaders)) l.processors l.fn.events l.events
