use Rattle.std.proofs.{Common.{arith}, lemmas.Grind.{common_steps}}
use Rattle.perf_io.proofs.room.rest_of.Goals as goal

pub returns : goal.returns
returns c = grind (arith, common_steps)
