use Rattle.std.proofs.Common.{rules}
use Rattle.case_verdicts.proofs.judging.run_words.Goals as goal

pub returns : goal.returns
returns c = λ c'. record {
  answer = c'.in_ok-answer.answer.status;
  out = c'.in_ok-answer.answer.out.held;
  outcome = search rules;
  judged = search rules;
}
