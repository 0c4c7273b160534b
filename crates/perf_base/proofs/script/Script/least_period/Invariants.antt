use Rattle.std.proofs.Common.{◌≡◌, ◌<◌, take}
use Rattle.perf_base.specs.{Scripts.{IsScript}, Weight.{period_of, least_by}}
use Rattle.perf_base.proofs.script.Script.least_period.Given as goal

abbrev pub invariant-loop-tool : goal.invariant-loop-tool
invariant-loop-tool l = record {
  sound : 0 < l.tool → IsScript l.self;
  least : l.least ≡ least_by (least_by period_of) (take l.tool l.self.tool_lines);
}
