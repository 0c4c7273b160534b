use Rattle.std.{proofs.Common.{◌≡◌, ◌≤◌, ◌*◌, take}, specs.Prelude.{sum_by}}
use Rattle.perf_base.specs.Weight.{shares}
use Rattle.perf_base.proofs.weight.shares.Given as goal

abbrev pub invariant-loop-hits : goal.invariant-loop-hits
invariant-loop-hits l = (l.sum ≡ sum_by (shares l.period) (take l.hits-index l.hits)) × (l.sum ≤ l.hits-index * 1000000000)
