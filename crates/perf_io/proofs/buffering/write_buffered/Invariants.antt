use Rattle.perf_io.proofs.buffering.write_buffered.Given as goal

abbrev pub ghosts-write_behind : goal.ghosts-write_behind
ghosts-write_behind g a = record { name = a.sink.ghost_name; start = g.K.Sink.shows.held a.sink.now; flushed = g.K.Sink.shows.flushed a.sink.now }
