use Rattle.std.proofs.Common.{refl}
use Rattle.perf_base.specs.declared.lines.ToolLine.TheVariants as line
use Rattle.perf_base.specs.declared.reply.Reply.TheVariants as reply
use Rattle.machine.proofs.Asking.{asked}
use Rattle.machine.proofs.tools.seats.Goals as goal

pub returns : goal.returns
returns c =
    asked c.args.world.now (line.Seats c.args.cpu) (reply.Seats c.seats.result) c.use_invariant.ensures c.requires.ready refl refl (λ s. refl)
    (c.seats.result, refl, c.seats.ensures)
