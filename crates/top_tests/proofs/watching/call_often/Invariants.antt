use Rattle.shared_object.specs.Histories.{BelongsTo}
use Rattle.top_tests.proofs.watching.call_often.Given as goal

abbrev pub invariant-loop : goal.invariant-loop
invariant-loop g l = BelongsTo l.pass l.share
