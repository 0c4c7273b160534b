use Rattle.std.specs.Prelude.{None}
use Rattle.perf_book.proofs.running.run_with.Given as goal

-- the run of the book that is given, published nowhere
abbrev pub ghosts-run_named : goal.ghosts-run_named
ghosts-run_named g a = record { script = a.book.script; rings = a.rings.now; watched = None }
