use Rattle.std.proofs.Common.{◌≡◌, ◌-◌}
use Rattle.work_account.specs.{Visits.{hits_among}, Walks.{keys_from}}
use Rattle.work_account.proofs.walking.Walk.next.Given as goal

abbrev pub invariant-loop-self : goal.invariant-loop-self
invariant-loop-self l = hits_among l.what l.world (keys_from l.world l.cpu l.fn.self) ≡ hits_among l.what l.world (keys_from l.world l.cpu l.self)

abbrev pub decreases-loop-self : goal.decreases-loop-self
decreases-loop-self l = 4 - l.self.pass
