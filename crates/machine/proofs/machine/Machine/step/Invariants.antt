use Rattle.machine.proofs.machine.Machine.step.Given as goal

abbrev pub ghosts-line_alone : goal.ghosts-line_alone
ghosts-line_alone a = record { name = a.blank.name; parts = a.blank.parts }
