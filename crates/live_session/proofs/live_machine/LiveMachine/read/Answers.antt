use Rattle.std.proofs.Common.{subst}
use Rattle.given_lines.specs.Heads.{BlamesHead}
use Rattle.live_session.proofs.live_machine.LiveMachine.read.Goals as goal

pub returns-in-Err-Bad-clause-bad : goal.returns-in-Err-Bad-clause-bad
returns-in-Err-Bad-clause-bad c = rw c.in-Err-Bad.field-0-is (subst (BlamesHead c.args.text.now) c.in-Err-Bad.field-0-is c.in-Err-Bad.ensures.bad)
