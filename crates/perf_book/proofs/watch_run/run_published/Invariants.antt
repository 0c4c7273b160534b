use Rattle.perf_book.specs.Watching.{watched_by}
use Rattle.perf_book.proofs.watch_run.run_published.Given as goal

-- the run of the book that is given, published on the page
abbrev pub ghosts-run_named : goal.ghosts-run_named
ghosts-run_named g a = record { script = a.book.script; rings = a.rings.now; watched = watched_by a.publisher }
