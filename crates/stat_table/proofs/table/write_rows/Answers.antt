use Rattle.std.proofs.Common.{rules}
use Rattle.stat_table.{specs.Table.{row_text}, proofs.Rows.{rows_more, rows_exit}}
use Rattle.stat_table.proofs.table.write_rows.Goals as goal

pub returns-in_err-write_row-clause-wrote : goal.returns-in_err-write_row-clause-wrote
returns-in_err-write_row-clause-wrote g c =
    rows_exit row_text c.args.rows.now c.loop-row.row-index c.row-item.result c.loop-row-test.true c.row-item.is c.loop-row.invariant.wrote
    c.from_residual.ensures.0 c.in_err-write_row.ensures.wrote

pub loop-row-preserved : goal.loop-row-preserved
loop-row-preserved g c = record {
  wrote =
      rows_more row_text c.args.rows.now c.loop-row.row-index c.row-item.result c.loop-row-test.true c.row-item.is c.loop-row.invariant.wrote
      c.in_ok-write_row.ensures.wrote;
  flushed = search rules;
}
