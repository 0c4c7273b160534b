use Rattle.std.specs.Prelude.{codes, decimal}
use Rattle.stat_table.{specs.{Estimates.{estimate_of, share_of}, Table.{right, estimate_text, share_text}}, proofs.Rows.{columns}}
use Rattle.stat_table.proofs.table.push_numbers.Goals as goal

pub returns-clause-added : goal.returns-clause-added
returns-clause-added c =
    let sums = c.args.row.now.sums in
    let estimated = rw c.estimate-estimate.ensures at c.push_estimate.ensures.added in
    let shared = rw (c.as_bytes.ensures, c.share_entry-share.ensures.text, c.share.ensures) at c.push_column.ensures.added in
    columns (codes " ") c.args.text.now (right 14 (decimal sums.count)) (right 14 (decimal sums.enabled)) (right 14 (decimal sums.running))
    (right 27 (estimate_text c.args.row.now.error (estimate_of sums.count sums.enabled sums.running)))
    (right 7 (share_text (share_of sums.enabled sums.running)))
    c.push_count.new.text c.push_count-2.new.text c.push_count-3.new.text c.push_estimate.new.text c.push_column.new.text
    c.push_count.ensures.added c.push_count-2.ensures.added c.push_count-3.ensures.added estimated shared
