use Rattle.std.proofs.Common.{rules}
use Rattle.work_maker.proofs.parts.machine.Goals as goal

pub returns : goal.returns
returns c = search rules
