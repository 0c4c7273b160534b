use Rattle.std.proofs.Common.{rules}
use Rattle.work_maker.proofs.lines.counting_lines.Goals as goal

pub returns : goal.returns
returns c = search rules
