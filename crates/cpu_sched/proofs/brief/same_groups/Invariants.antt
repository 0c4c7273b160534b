use Rattle.std.proofs.Common.{◌≡◌, map, take}
use Rattle.cpu_sched.specs.Briefs.{seen}
use Rattle.cpu_sched.proofs.brief.same_groups.Given as goal

abbrev pub invariant-loop-place : goal.invariant-loop-place
invariant-loop-place l = map seen (take l.place l.one) ≡ map seen (take l.place l.other)
