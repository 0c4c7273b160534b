use Rattle.std.proofs.Common.{rules}
use Rattle.std.proofs.Common.{ap, inl}
use Rattle.perf_top.proofs.run.send.Goals as goal

pub returns-in-Err-clause-fault : goal.returns-in-Err-clause-fault
returns-in-Err-clause-fault g c = λ e. (c.in-Err.ensures.wrote.written, inl (ap (λ f. f.calls) c.write_buffered.ensures.flushed))

pub returns-in-Ok-flush-clause-done : goal.returns-in-Ok-flush-clause-done
returns-in-Ok-flush-clause-done g c = search rules
