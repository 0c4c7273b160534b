use Rattle.top_tests.proofs.planning_tests.lines_planned_in_time_test_no_counter.Given as goal

abbrev pub ghosts-lines_by_plan-L-Ledger : goal.ghosts-lines_by_plan-L-Ledger
ghosts-lines_by_plan-L-Ledger g a = record { name = a.counted.name; parts = a.counted.parts }

abbrev pub ghosts-lines_by_plan-P-Ledger : goal.ghosts-lines_by_plan-P-Ledger
ghosts-lines_by_plan-P-Ledger g a = record { name = a.planned.name; parts = a.planned.parts }
