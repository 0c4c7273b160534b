use Rattle.perf_book.proofs.workers.work.Given as goal

abbrev pub ghosts-act : goal.ghosts-act
ghosts-act g a = record { name = a.blank.name; parts = a.blank.parts }
