use Rattle.machine.proofs.machine.Machine.cpu_line.Given as goal

abbrev pub ghosts-cpu_line_alone : goal.ghosts-cpu_line_alone
ghosts-cpu_line_alone a = record { name = a.blank.name; parts = a.blank.parts }
