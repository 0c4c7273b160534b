use Rattle.std.proofs.Common.{rules}
use Rattle.case_verdicts.proofs.judging.run_text.Goals as goal

pub returns : goal.returns
returns c = record {
  answer = c.in_ok-answer.answer.status;
  out = c.in_ok-answer.answer.out.held;
  print = c.in_ok-printed.printed;
  again = c.in_ok-again.again;
  outcome = search rules;
  printed = search rules;
  run = search rules;
  judged = search rules;
}
