use Rattle.std.proofs.Common.{length}
use Rattle.work_account.{specs.{Visits.{hits_among}, Walks.{keys_from}}, proofs.Sent.{IsUnderWay}}
use Rattle.work_account.specs.declared.happening.Happening.TheVariants as happening
use Rattle.work_account.proofs.sending.hit_and_send.Given as goal

abbrev pub invariant-loop-hit : goal.invariant-loop-hit
invariant-loop-hit g l = IsUnderWay l.fn.world l.stretch l.rings l.fn.outs l.fn.steps l.walk l.world l.outs l.steps

abbrev pub decreases-loop-hit : goal.decreases-loop-hit
decreases-loop-hit g l = length (hits_among (happening.Work l.stretch.work) l.fn.world (keys_from l.fn.world l.stretch.cpu l.walk))
