use Rattle.std.proofs.Common.{◌≡◌, length}
use Rattle.work_account.{specs.{Visits.{hits_among}, Walks.{keys_from}}, proofs.Walked.{IsStruck}}
use Rattle.work_account.proofs.hitting.hit_found.Given as goal

abbrev pub invariant-loop-hit : goal.invariant-loop-hit
invariant-loop-hit g l = record {
  struck : IsStruck l.what l.fn.world l.cpu l.walk l.world;
  lost : l.world.lost ≡ l.fn.world.lost;
}

abbrev pub decreases-loop-hit : goal.decreases-loop-hit
decreases-loop-hit g l = length (hits_among l.what l.fn.world (keys_from l.fn.world l.cpu l.walk))
