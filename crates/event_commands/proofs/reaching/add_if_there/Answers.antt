use Rattle.std.proofs.Common.{rules}
use Rattle.event_commands.proofs.reaching.add_if_there.Goals as goal

pub returns-then-cpu-cpus : goal.returns-then-cpu-cpus
returns-then-cpu-cpus c = search rules
