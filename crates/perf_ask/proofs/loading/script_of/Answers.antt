use Rattle.std.proofs.Common.{rules}
use Rattle.std.proofs.Common.{arith}
use Rattle.perf_ask.proofs.OrderLength.{few-acts}
use Rattle.perf_ask.proofs.loading.script_of.Goals as goal

pub returns-in-Ok-clause-short : goal.returns-in-Ok-clause-short
returns-in-Ok-clause-short c = omega (arith, few-acts c.args.text.now c.in-Ok.counted.script c.in-Ok.ensures.ok.0, c.requires.short)

pub returns-in-Err-Bad-clause-refused : goal.returns-in-Err-Bad-clause-refused
returns-in-Err-Bad-clause-refused c = search rules
