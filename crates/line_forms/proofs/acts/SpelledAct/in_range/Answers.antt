use Rattle.std.proofs.Common.{rules}
use Rattle.line_forms.proofs.acts.SpelledAct.in_range.Goals as goal

pub returns-in_ok-below-in-Processor : goal.returns-in_ok-below-in-Processor
returns-in_ok-below-in-Processor c = search rules
