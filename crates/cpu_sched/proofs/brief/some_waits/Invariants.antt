use Rattle.std.proofs.Common.{◌≡◌, drop, map}
use Rattle.cpu_sched.specs.{After.{some_wait}, Briefs.{seen}}
use Rattle.cpu_sched.proofs.brief.some_waits.Given as goal

abbrev pub invariant-loop-group : goal.invariant-loop-group
invariant-loop-group l = some_wait l.world (map seen (drop l.group-index l.groups)) ≡ some_wait l.world (map seen l.groups)
