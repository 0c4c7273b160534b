use Rattle.std.proofs.{Common.{arith}, lemmas.Grind.{common_steps}}
use Rattle.event_reads.proofs.words.push_marks.Goals as goal

pub returns : goal.returns
returns c = grind (arith, common_steps)
