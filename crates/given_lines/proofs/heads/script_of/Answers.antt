use Rattle.given_lines.proofs.Whole.{blamed_alone, blamed_first}
use Rattle.given_lines.proofs.heads.script_of.Goals as goal

pub returns-in-None-clause-bad : goal.returns-in-None-clause-bad
returns-in-None-clause-bad c = blamed_alone c.args.text.now c.read_script.result (rw c.in-None.is at c.first_undeclared.ensures) c.read_script.ensures.bad

pub returns-in-Some-clause-bad : goal.returns-in-Some-clause-bad
returns-in-Some-clause-bad c =
    rw c.fault_of.ensures (blamed_first c.args.text.now c.read_script-in-Some.result c.in-Some.first c.read_script-in-Some.ensures.ok c.read_script-in-Some.ensures.bad (rw c.in-Some.is at c.first_undeclared.ensures))
