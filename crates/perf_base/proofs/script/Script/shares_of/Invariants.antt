use Rattle.std.{proofs.Common.{◌≡◌, ◌<◌, ◌≤◌, ◌*◌, take, length}, specs.Prelude.{sum_by}}
use Rattle.perf_base.specs.{Scripts.{IsScript}, Weight.{line_shares}}
use Rattle.perf_base.proofs.script.Script.shares_of.Given as goal

abbrev pub invariant-loop-cpu : goal.invariant-loop-cpu
invariant-loop-cpu l = record {
  sound : 0 < l.cpu → IsScript l.self;
  sum : l.sum ≡ sum_by (sum_by (line_shares l.period)) (take l.cpu l.self.cpu_lines);
  few : l.sum ≤ sum_by length (take l.cpu l.self.cpu_lines) * 16000000000;
}
