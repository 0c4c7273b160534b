use Rattle.std.proofs.Common.{◌≡◌, ◌≤◌, length}
use Rattle.perf_io.specs.Rooms.{with_room}
use Rattle.perf_io.proofs.room.BufferedSink.send_all.Given as goal

abbrev pub invariant-loop-self : goal.invariant-loop-self
invariant-loop-self g l =
    let K = g.K.Sink in
    let now = l.self.sink.now in
    let before = l.initial.self.sink.now in
    record {
      same_reference : l.self.sink.ghost_name ≡ l.initial.self.sink.ghost_name;
      count : K.shows.faults before ≤ K.shows.faults now;
      held : with_room g.B.Behind.start (K.shows.held now) l.self.room ≡ with_room g.B.Behind.start (K.shows.held before) l.initial.self.room;
      flushed : K.shows.flushed now ≡ K.shows.flushed before;
      flushes : l.self.flushes ≡ l.initial.self.flushes;
    }

abbrev pub decreases-loop-self : goal.decreases-loop-self
decreases-loop-self g l = length l.self.room
