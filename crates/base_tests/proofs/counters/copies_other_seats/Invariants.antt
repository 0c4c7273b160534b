use Rattle.base_tests.proofs.counters.copies_other_seats.Given as goal

abbrev pub ghosts-copies : goal.ghosts-copies
ghosts-copies g a = record { name = a.blank.name; parts = a.blank.parts }
