use Rattle.top_tests.proofs.late_open_tests.late_open.Given as goal

abbrev pub ghosts-do_lines-L-Ledger : goal.ghosts-do_lines-L-Ledger
ghosts-do_lines-L-Ledger a = record { name = a.counted.name; parts = a.counted.parts }

abbrev pub ghosts-do_lines-P-Ledger : goal.ghosts-do_lines-P-Ledger
ghosts-do_lines-P-Ledger a = record { name = a.planned.name; parts = a.planned.parts }
