use Rattle.machine.proofs.machine.Machine.tool_line.Given as goal

abbrev pub ghosts-tool_line_alone : goal.ghosts-tool_line_alone
ghosts-tool_line_alone a = record { name = a.blank.name; parts = a.blank.parts }
