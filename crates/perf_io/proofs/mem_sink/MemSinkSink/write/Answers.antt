use Rattle.std.proofs.Common.{rules}
use Rattle.perf_io.proofs.mem_sink.MemSinkSink.write.Goals as goal

pub returns-clause-added : goal.returns-clause-added
returns-clause-added c = search rules

pub returns-clause-fails : goal.returns-clause-fails
returns-clause-fails c = search rules
