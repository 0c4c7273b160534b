use Rattle.std.proofs.Common.{◌≡◌, arith}
use Rattle.perf_base.{specs.Weight.{least_period}, proofs.Weights.{no_weight}}
use Rattle.perf_base.proofs.script.Script.weight.Goals as goal

pub returns-then-least-eq0 : goal.returns-then-least-eq0
returns-then-least-eq0 c =
    let none : least_period c.args.self.now ≡ 0 = omega (arith, c.least_period-least.ensures, c.if-least-eq0.true) in
    no_weight c.args.self.now none
