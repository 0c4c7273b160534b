use Rattle.std.proofs.Common.{◌≡◌, ◌≤◌, length, vec_capacity}
use Rattle.perf_io.specs.Outside.{Takes}
use Rattle.line_input.specs.{Ahead.{ahead}, Heads.{HasNoEndLine}}
use Rattle.line_input.proofs.input.Input.fill_head.Given as goal

abbrev pub invariant-loop : goal.invariant-loop
invariant-loop g l =
    let shows = g.S.Source.shows in
    record {
      room : 4194304 ≤ vec_capacity l.text;
      counted : length l.text.items ≡ l.counter;
      taken : Takes (ahead shows l.fn.self l.fn.source) (ahead shows l.self l.source) l.text.items;
      none : HasNoEndLine l.text.items;
      count : shows.faults l.fn.source ≤ shows.faults l.source;
    }
