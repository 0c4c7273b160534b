use Rattle.perf_book.proofs.running.do_rest_alone.Given as goal

abbrev pub ghosts-do_rest : goal.ghosts-do_rest
ghosts-do_rest g a = record { name = a.blank.name; parts = a.blank.parts }
