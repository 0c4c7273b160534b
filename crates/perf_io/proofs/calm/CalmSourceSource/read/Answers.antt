use Rattle.std.proofs.{Common.{◌≡◌, take, drop, arith}, lemmas.Grind.{common_steps}}
use Rattle.perf_io.proofs.Fronts.{front_and_rest}
use Rattle.perf_io.proofs.calm.CalmSourceSource.read.Goals as goal

pub returns-clause-taken : goal.returns-clause-taken
returns-clause-taken c =
    let front : take c.copy_front-n.result c.copy_front-n.new.buf ≡ take c.copy_front-n.result (drop c.self.inside.given c.self.inside.bytes.items) =
    grind (arith, common_steps) in
    rw (← c.self.view_is) (front_and_rest c.copy_front-n.result c.self.inside.given c.self.inside.bytes.items _ front)
