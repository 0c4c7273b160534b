use Rattle.std.{proofs.Common.{◌≡◌, ◌≤◌, ◌*◌, take}, specs.Prelude.{sum_by}}
use Rattle.perf_base.specs.Weight.{line_shares}
use Rattle.perf_base.proofs.weight.shares_in.Given as goal

abbrev pub invariant-loop-line : goal.invariant-loop-line
invariant-loop-line l = (l.sum ≡ sum_by (line_shares l.period) (take l.line-index l.lines)) × (l.sum ≤ l.line-index * 16000000000)
