use Rattle.std.proofs.Common.{◌≡◌, ◌≤◌, All, map, take, vec_len, vec_capacity}
use Rattle.stage_spec.specs.Hardware.{counters_of}
use Rattle.cpu_sched.specs.Briefs.{seen, briefs_at, IsGroupBrief}
use Rattle.cpu_sched.proofs.brief.take_keys.Given as goal

abbrev pub invariant-loop-leader : goal.invariant-loop-leader
invariant-loop-leader l = record {
  taken : map seen l.briefs.items ≡ briefs_at l.world l.cpu (take l.leader-index l.keys);
  sound : All (IsGroupBrief (counters_of l.world.hardware l.cpu)) (briefs_at l.world l.cpu (take l.leader-index l.keys));
  len : vec_len l.briefs ≤ l.leader-index;
  capacity : vec_capacity l.briefs ≡ vec_capacity l.fn.briefs;
}
