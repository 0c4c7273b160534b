use Rattle.std.proofs.Common.{rules}
use Rattle.perf_ask.proofs.asked.asked_by_watch.Goals as goal

pub new-requires : goal.new-requires
new-requires c = search rules
