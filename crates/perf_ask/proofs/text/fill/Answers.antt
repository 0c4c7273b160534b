use Rattle.std.proofs.Common.{rules}
use Rattle.perf_ask.proofs.text.fill.Goals as goal

pub loop-init : goal.loop-init
loop-init c = search rules
