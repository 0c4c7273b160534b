use Rattle.std.proofs.Common.{rules}
use Rattle.world_tables.proofs.processors.Processor.set_running.Goals as goal

pub returns : goal.returns
returns c = search rules
