use Rattle.std.proofs.Common.{◌∙◌}
use Rattle.perf_io.proofs.Wrote.{wrote_text}
use Rattle.stat_table.proofs.Rows.{row_of}
use Rattle.stat_table.proofs.table.write_row.Goals as goal

pub returns-clause-wrote : goal.returns-clause-wrote
returns-clause-wrote g c =
    let head = c.as_bytes.ensures ∙ c.head_of-head.ensures in
    let tail = c.as_bytes-3.ensures ∙ c.tail_of-tail.ensures in
    wrote_text
    (row_of c.args.row.now c.as_bytes.result.now c.as_bytes-2.result.now c.as_bytes-3.result.now head c.as_bytes-2.ensures tail)
    c.write_three.ensures.wrote
