use Rattle.std.proofs.Common.{ap, ◌+◌}
use Rattle.top_tests.{specs.declared.objects.CounterCall.TheVariants.{Add, Read}, proofs.Counting.{counts_more}}
use Rattle.top_tests.proofs.objects.CounterSequential.apply.Goals as goal

pub returns : goal.returns
returns c = λ key calls room counted fits.
    counts_more (λ call. elim call [ Add n ↦ n | Read ↦ 0 ]) key c.args.self.now.value calls c.args.call.now _ counted (ap (λ n. c.args.self.now.value + n) c.amount.ensures) fits
