use Rattle.std.proofs.Common.{◌≡◌, ◌≤◌, ◌*◌, ◌^◌, length, sum_by, take}
use Rattle.run_end.specs.Ended.{words_in}
use Rattle.report.specs.Told.{cut_records}
use Rattle.report.proofs.records.count_written.Given as goal

abbrev pub invariant-loop-end : goal.invariant-loop-end
invariant-loop-end l = record {
  sum : l.count ≡ sum_by (λ e. length (cut_records (words_in l.ended.ins e.ring))) (take l.end-index l.end-items);
  few : l.count ≤ l.end-index * 2 ^ 64;
}
