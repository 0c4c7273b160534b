use Rattle.std.proofs.Common.{rules}
use Rattle.machine.proofs.machine.Machine.has_line.Goals as goal

pub returns-then-cpu-lt8 : goal.returns-then-cpu-lt8
returns-then-cpu-lt8 c = search rules
