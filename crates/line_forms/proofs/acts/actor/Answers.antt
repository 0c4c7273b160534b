use Rattle.line_forms.proofs.Sequences.{processor_short, tool_short}
use Rattle.line_forms.proofs.acts.actor.Goals as goal

pub returns-in_ok-digit_below-in-112 : goal.returns-in_ok-digit_below-in-112
returns-in_ok-digit_below-in-112 c = processor_short _ _ _ c.digit_below.result c.in-112.is c.digit_below.ensures c.in_ok-digit_below-in-112.was

pub returns-in_ok-digit_below-in-116 : goal.returns-in_ok-digit_below-in-116
returns-in_ok-digit_below-in-116 c = tool_short _ _ _ c.digit_below-in-116.result c.in-116.is c.digit_below-in-116.ensures c.in_ok-digit_below-in-116.was
