use Rattle.std.proofs.Common.{refl, ap}
use Rattle.perf_base.specs.declared.lines.ToolLine.TheVariants as line
use Rattle.perf_base.specs.declared.reply.Reply.TheVariants as reply
use Rattle.machine.proofs.{Asking.{asked}, Refused.{refused-line}}
use Rattle.machine.proofs.tools.read.Goals as goal

pub returns-in-Err : goal.returns-in-Err
returns-in-Err c = refused-line c.args.world.now c.args.world.now (line.Read c.args.event c.args.size) c.in-Err.reason c.use_invariant.ensures refl c.in-Err.ensures.refused

pub returns-in-Ok : goal.returns-in-Ok
returns-in-Ok c =
    asked c.args.world.now (line.Read c.args.event c.args.size) (reply.Read c.in-Ok.words) c.use_invariant.ensures c.requires.ready refl c.in-Ok.ensures.accepted (λ s. refl)
    (ap reply.Read c.in-Ok.ensures.words)
