use Rattle.std.proofs.Common.{◌≡◌, take}
use Rattle.perf_base.specs.Weight.{period_of, least_by}
use Rattle.perf_base.proofs.weight.least_in.Given as goal

abbrev pub invariant-loop-line : goal.invariant-loop-line
invariant-loop-line l = l.least ≡ least_by period_of (take l.line-index l.lines)
