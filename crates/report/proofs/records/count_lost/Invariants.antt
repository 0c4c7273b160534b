use Rattle.std.proofs.Common.{◌≡◌, ◌≤◌, ◌*◌, ◌^◌, sum_by, take}
use Rattle.report.proofs.records.count_lost.Given as goal

abbrev pub invariant-loop-end : goal.invariant-loop-end
invariant-loop-end l = record {
  sum : l.count ≡ sum_by (λ e. e.numbers.lost) (take l.end-index l.ends);
  few : l.count ≤ l.end-index * 2 ^ 64;
}
