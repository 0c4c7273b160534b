use Rattle.std.proofs.{Common.{arith, rules}, lemmas.Grind.{common_steps}}
use Rattle.script_print.proofs.acts.write_act.Goals as goal

pub returns-in-Seen-clause-wrote : goal.returns-in-Seen-clause-wrote
returns-in-Seen-clause-wrote c = grind (arith, common_steps)

pub returns-in-Processor-clause-wrote : goal.returns-in-Processor-clause-wrote
returns-in-Processor-clause-wrote c = search rules
