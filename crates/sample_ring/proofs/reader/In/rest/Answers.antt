use Rattle.std.proofs.{Common.{arith}, lemmas.Grind.{common_steps}}
use Rattle.sample_ring.proofs.reader.In.rest.Goals as goal

pub loop-self-preserved : goal.loop-self-preserved
loop-self-preserved c = grind (arith, common_steps)
