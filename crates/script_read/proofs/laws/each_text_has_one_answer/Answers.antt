use Rattle.script_read.proofs.{OneAnswer.{stands_one, refused_one, stands_or_refused}, Decided.{text_decided}}
use Rattle.script_read.proofs.laws.each_text_has_one_answer.Goals as goal

pub returns : goal.returns
returns c = record { one_script = stands_one; one_refusal = refused_one; never_both = stands_or_refused; always_one = text_decided }
