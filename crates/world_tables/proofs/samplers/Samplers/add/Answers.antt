use Rattle.std.proofs.Common.{rules}
use Rattle.world_tables.proofs.samplers.Samplers.add.Goals as goal

pub returns-then-place-lt72 : goal.returns-then-place-lt72
returns-then-place-lt72 c = search rules
