use Rattle.script_print.proofs.declared.put_machine_of_pmus.Goals as goal

pub returns-clause-wrote : goal.returns-clause-wrote
returns-clause-wrote g c = rw c.from.ensures at c.put_line.ensures.wrote
