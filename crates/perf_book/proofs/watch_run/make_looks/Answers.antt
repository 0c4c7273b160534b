use Rattle.std.proofs.{Common.{arith, rules}, lemmas.Grind.{common_steps}}
use Rattle.perf_book.proofs.watch_run.make_looks.Goals as goal

pub loop-number-init : goal.loop-number-init
loop-number-init c = search rules

pub loop-number-preserved : goal.loop-number-preserved
loop-number-preserved c = grind (arith, common_steps)
