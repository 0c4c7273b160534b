use Rattle.std.proofs.{Common.{arith}, Math.Pow.{pow-lt}}
use Rattle.base_tests.proofs.counters.mask_by.Goals as goal

pub returns-then-mask-counters : goal.returns-then-mask-counters
returns-then-mask-counters c = (omega arith, pow-lt {i = 0} {j = c.args.counters} c.requires.some)
