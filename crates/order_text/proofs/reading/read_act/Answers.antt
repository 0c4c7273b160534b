use Rattle.std.proofs.Common.{rules}
use Rattle.order_text.proofs.reading.read_act.Goals as goal

pub returns : goal.returns
returns c = search rules
