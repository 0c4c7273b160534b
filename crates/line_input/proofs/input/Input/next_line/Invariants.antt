use Rattle.std.proofs.Common.{◌≤◌, ℕ, List}
use Rattle.line_input.specs.Ahead.{ahead}
use Rattle.line_input.proofs.LineParts.{HasTaken}
use Rattle.line_input.proofs.input.Input.next_line.Given as goal

abbrev pub invariant-loop-count : goal.invariant-loop-count
invariant-loop-count g l =
    let shows = g.S.Source.shows in
    record {
      faults : shows.faults l.fn.source ≤ shows.faults l.source;
      part : (bytes : List ℕ) × HasTaken (ahead shows l.fn.self l.fn.source) (ahead shows l.self l.source) l.line l.count bytes;
    }
