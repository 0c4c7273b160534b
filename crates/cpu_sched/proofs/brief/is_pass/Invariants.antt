use Rattle.std.proofs.Common.{◌≡◌, ◌≤◌, length, map, take}
use Rattle.cpu_sched.specs.Briefs.{seen, briefs_at}
use Rattle.cpu_sched.proofs.brief.is_pass.Given as goal

abbrev pub invariant-loop-leader : goal.invariant-loop-leader
invariant-loop-leader l = record {
  met : l.met ≤ length l.groups;
  same : map seen (take l.met l.groups) ≡ briefs_at l.world l.cpu (take l.leader-index l.keys);
}
