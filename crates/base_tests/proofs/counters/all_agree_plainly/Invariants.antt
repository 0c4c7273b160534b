use Rattle.base_tests.proofs.counters.all_agree_plainly.Given as goal

abbrev pub ghosts-all_agree : goal.ghosts-all_agree
ghosts-all_agree a = record { name = a.blank.name; parts = a.blank.parts }
