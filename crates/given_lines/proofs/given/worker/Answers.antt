use Rattle.std.proofs.Common.{rules}
use Rattle.given_lines.proofs.given.worker.Goals as goal

pub returns-then-is_worker : goal.returns-then-is_worker
returns-then-is_worker c = search rules
