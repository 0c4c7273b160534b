use Rattle.std.proofs.Common.{rules}
use Rattle.std.proofs.{Common.{◌≡◌, take, drop, arith}, lemmas.Grind.{common_steps}}
use Rattle.perf_io.proofs.Fronts.{front_and_rest, front_within}
use Rattle.perf_io.proofs.mem_source.MemSourceSource.read.Goals as goal

pub returns-clause-taken : goal.returns-clause-taken
returns-clause-taken c =
    let front : take c.copy_front-n.result c.copy_front-n.new.buf ≡ take c.copy_front-n.result (drop c.self.inside.given c.self.inside.bytes.items) =
    grind (arith, common_steps, front_within) in
    rw (← c.self.view_is) (front_and_rest c.copy_front-n.result c.self.inside.given c.self.inside.bytes.items _ front)

pub returns-then-fails-clause-cause : goal.returns-then-fails-clause-cause
returns-then-fails-clause-cause c = search rules
