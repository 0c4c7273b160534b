use Rattle.std.proofs.Common.{rules}
use Rattle.perf_world.proofs.tasks.note_last.Goals as goal

pub returns-in-Some : goal.returns-in-Some
returns-in-Some c = search rules
