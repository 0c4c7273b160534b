use Rattle.std.proofs.Common.{refl, sym, subst}
use Rattle.perf_base.specs.declared.lines.ToolLine.TheVariants as line
use Rattle.machine.{specs.Answered.{IsToolDone}, proofs.ToolLines.{asked-done}}
use Rattle.machine.proofs.given.begin.Goals as goal

pub returns-in-Read : goal.returns-in-Read
returns-in-Read c = λ n.
    subst (λ l. IsToolDone l c.args.world.now c.args.world.now c.read.result n n) (sym c.in-Read.is)
    (asked-done (line.Read c.in-Read.event c.in-Read.size) c.args.world.now c.read.result n c.requires.ready (λ cpu. refl) c.read.ensures)

pub returns-in-Why : goal.returns-in-Why
returns-in-Why c = λ n.
    subst (λ l. IsToolDone l c.args.world.now c.args.world.now c.why.result n n) (sym c.in-Why.is)
    (asked-done (line.Why c.in-Why.event) c.args.world.now c.why.result n c.requires.ready (λ cpu. refl) c.why.ensures)

pub returns-in-Seats : goal.returns-in-Seats
returns-in-Seats c = λ n.
    subst (λ l. IsToolDone l c.args.world.now c.args.world.now c.seats.result n n) (sym c.in-Seats.is)
    (asked-done (line.Seats c.in-Seats.cpu) c.args.world.now c.seats.result n c.requires.ready (λ cpu. refl) c.seats.ensures)
