use Rattle.std.proofs.Common.{rules}
use Rattle.perf_io.proofs.room.BufferedSink.send_all.Goals as goal

pub returns-clause-sent : goal.returns-clause-sent
returns-clause-sent g c = search rules
