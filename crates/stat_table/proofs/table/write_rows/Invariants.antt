use Rattle.std.{proofs.Common.{◌≡◌, Ok, take}, specs.Prelude.{flat_map}}
use Rattle.perf_io.specs.Wrote.{Wrote}
use Rattle.stat_table.specs.Table.{row_text}
use Rattle.stat_table.proofs.table.write_rows.Given as goal

abbrev pub invariant-loop-row : goal.invariant-loop-row
invariant-loop-row g l = record {
  wrote : Wrote g.K.Sink.shows l.fn.sink l.sink (Ok tt) (flat_map row_text (take l.row-index l.rows));
  flushed : g.K.Sink.shows.flushed l.sink ≡ g.K.Sink.shows.flushed l.fn.sink;
}
