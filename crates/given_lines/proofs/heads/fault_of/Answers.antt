use Rattle.std.proofs.Common.{rules}
use Rattle.given_lines.proofs.heads.fault_of.Goals as goal

pub returns : goal.returns
returns c = search rules
