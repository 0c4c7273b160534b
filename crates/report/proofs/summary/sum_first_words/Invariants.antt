use Rattle.std.proofs.Common.{◌≡◌, ◌≤◌, ◌*◌, ◌^◌, sum_by, take}
use Rattle.report.specs.Summary.{first_word}
use Rattle.report.proofs.summary.sum_first_words.Given as goal

abbrev pub invariant-loop-place : goal.invariant-loop-place
invariant-loop-place l = record {
  sum : l.sum ≡ sum_by (λ a. first_word a.reply) (take l.place l.answers.items);
  few : l.sum ≤ l.place * 2 ^ 64;
}
