use Rattle.std.proofs.Common.{◌≤◌, length, vec_capacity}
use Rattle.perf_io.specs.Outside.{Takes}
use Rattle.perf_ask.proofs.text.fill.Given as goal

abbrev pub invariant-loop : goal.invariant-loop
invariant-loop g l = record {
  room : 4194305 ≤ vec_capacity l.text;
  short : length l.text.items ≤ 4194304;
  counted : l.counter ≤ length l.text.items;
  taken : Takes (g.S.Source.shows.left l.fn.source) (g.S.Source.shows.left l.source) l.text.items;
  count : g.S.Source.shows.faults l.fn.source ≤ g.S.Source.shows.faults l.source;
}
