use Rattle.script_print.proofs.declared.put_machine.Goals as goal

pub returns-clause-wrote : goal.returns-clause-wrote
returns-clause-wrote g c = rw (c.from.ensures, c.from-2.ensures) at c.put_line.ensures.wrote
