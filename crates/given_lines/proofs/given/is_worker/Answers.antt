use Rattle.std.proofs.Common.{rules}
use Rattle.given_lines.proofs.given.is_worker.Goals as goal

pub returns-in-Seen : goal.returns-in-Seen
returns-in-Seen c = search rules
