use Rattle.std.proofs.{Common.{arith}, lemmas.Grind.{common_steps}}
use Rattle.event_reads.proofs.words.push_members.Goals as goal

pub loop-member-preserved : goal.loop-member-preserved
loop-member-preserved c = grind (arith, common_steps)
