use Rattle.std.proofs.Common.{arith}
use Rattle.script_read.proofs.state.State.is_covered.Goals as goal

pub returns-then-not-contains : goal.returns-then-not-contains
returns-then-not-contains c = (λ t. absurd cc, λ h. let t = c.contains.ensures.1 (h (record { 0 = c.loop-cpu.cpu }) (omega (arith, c.loop-cpu-test.true, c.cpus-cpu-end.ensures.number))) in absurd cc)
