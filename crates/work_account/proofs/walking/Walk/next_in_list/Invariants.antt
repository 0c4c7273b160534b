use Rattle.std.proofs.Common.{◌≡◌, ◌-◌, drop, length}
use Rattle.work_account.specs.{Visits.{hits_among}, Walks.{from_member}}
use Rattle.work_account.proofs.walking.Walk.next_in_list.Given as goal

abbrev pub invariant-loop-self : goal.invariant-loop-self
invariant-loop-self l = record {
  left : hits_among l.what l.world (from_member l.world l.fn.self.member (drop l.fn.self.group l.leaders)) ≡ hits_among l.what l.world (from_member l.world l.self.member (drop l.self.group l.leaders));
  pass : l.self.pass ≡ l.fn.self.pass;
}

abbrev pub decreases-loop-self : goal.decreases-loop-self
decreases-loop-self l = length l.leaders - l.self.group
