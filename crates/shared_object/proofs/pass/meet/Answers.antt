use Rattle.std.proofs.{Common.{arith}, lemmas.Grind.{common_steps}}
use Rattle.shared_object.proofs.pass.meet.Goals as goal

pub returns-clause-b : goal.returns-clause-b
returns-clause-b c = grind (arith, common_steps)
