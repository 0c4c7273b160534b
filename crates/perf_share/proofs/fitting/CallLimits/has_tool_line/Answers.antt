use Rattle.std.proofs.Common.{rules}
use Rattle.perf_share.proofs.fitting.CallLimits.has_tool_line.Goals as goal

pub returns-in-Map : goal.returns-in-Map
returns-in-Map c = search rules
