use Rattle.std.{proofs.Common.{◌≡◌, ◌<◌, take}, specs.Prelude.{sum_by, count_by}}
use Rattle.perf_base.specs.{Scripts.{IsScript}, Weight.{opens_sampling}}
use Rattle.perf_base.proofs.script.Script.sampling_opens.Given as goal

abbrev pub invariant-loop-tool : goal.invariant-loop-tool
invariant-loop-tool l = record {
  sound : 0 < l.tool → IsScript l.self;
  sum : l.opens ≡ sum_by (count_by opens_sampling) (take l.tool l.self.tool_lines);
}
