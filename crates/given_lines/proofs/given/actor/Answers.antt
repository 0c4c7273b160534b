use Rattle.line_forms.specs.Forms.{act_of}
use Rattle.given_lines.proofs.Actors.{alone_none, nobody_none, for_actor}
use Rattle.given_lines.proofs.given.actor.Goals as goal

pub returns-in_err-behind : goal.returns-in_err-behind
returns-in_err-behind c = rw c.from_residual.ensures (alone_none c.args.line.now c.cut.result.0.now (rw c.in_err-behind.was at c.cut.ensures))

pub returns-in_err-worker : goal.returns-in_err-worker
returns-in_err-worker c =
    rw c.from_residual-in_err-worker.ensures (nobody_none c.args.line.now c.cut.result.0.now c.in_ok-behind.behind.now (rw c.in_ok-behind.was at c.cut.ensures) c.in_err-worker.ensures)

pub returns : goal.returns
returns c = for_actor c.args.line.now c.cut.result.0.now c.in_ok-behind.behind.now (act_of c.in_ok-worker.field-0) (rw c.in_ok-behind.was at c.cut.ensures) c.in_ok-worker.ensures
