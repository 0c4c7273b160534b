use Rattle.std.proofs.Common.{rules}
use Rattle.script_read.proofs.lines.open_kind.Goals as goal

pub returns-in_err-kind-clause-bad : goal.returns-in_err-kind-clause-bad
returns-in_err-kind-clause-bad c = search rules
