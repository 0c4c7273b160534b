use Rattle.std.proofs.Common.{◌≡◌, ◌-◌, drop, length}
use Rattle.work_account.specs.Visits.{hits_among}
use Rattle.work_account.proofs.walking.Walk.next_in_group.Given as goal

abbrev pub invariant-loop-self : goal.invariant-loop-self
invariant-loop-self l = record {
  left : hits_among l.what l.world (drop l.fn.self.member l.members) ≡ hits_among l.what l.world (drop l.self.member l.members);
  rest : l.self ≡ record l.fn.self { member = l.self.member };
}

abbrev pub decreases-loop-self : goal.decreases-loop-self
decreases-loop-self l = length l.members - l.self.member
