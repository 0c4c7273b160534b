use Rattle.shared_object.specs.Histories.{BelongsTo}
use Rattle.top_tests.proofs.watching.watch.Given as goal

abbrev pub invariant-loop : goal.invariant-loop
invariant-loop l = BelongsTo l.pass l.share
