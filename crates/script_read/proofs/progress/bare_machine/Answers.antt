use Rattle.std.proofs.Common.{refl}
use Rattle.script_read.proofs.Beginning.{follows_bare}
use Rattle.script_read.proofs.progress.bare_machine.Goals as goal

pub returns : goal.returns
returns c = λ v. follows_bare v c.args.cpus _ c.new.ensures refl refl refl c.new-2.ensures
