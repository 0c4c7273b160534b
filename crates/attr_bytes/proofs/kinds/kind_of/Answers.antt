use Rattle.std.proofs.Common.{rules}
use Rattle.attr_bytes.proofs.kinds.kind_of.Goals as goal

pub returns-in-1-eq9 : goal.returns-in-1-eq9
returns-in-1-eq9 c = search rules

pub returns-in-0-default : goal.returns-in-0-default
returns-in-0-default c = search rules
