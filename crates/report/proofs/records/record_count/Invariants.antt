use Rattle.std.proofs.Common.{◌≡◌, ◌≤◌, ◌+◌, length}
use Rattle.report.specs.Told.{cut_records}
use Rattle.report.proofs.records.record_count.Given as goal

abbrev pub invariant-loop-rest : goal.invariant-loop-rest
invariant-loop-rest l = record {
  counted : l.count + length (cut_records l.rest) ≡ length (cut_records l.words);
  few : l.count + length l.rest ≤ length l.words;
}

abbrev pub decreases-loop-rest : goal.decreases-loop-rest
decreases-loop-rest l = length l.rest
