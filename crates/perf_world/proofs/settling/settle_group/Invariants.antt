use Rattle.std.proofs.Common.{◌≡◌, take, length}
use Rattle.perf_world.specs.Settling.{group_keys, HasSettled}
use Rattle.perf_world.proofs.settling.settle_group.Given as goal

abbrev pub invariant-loop-member : goal.invariant-loop-member
invariant-loop-member l = record {
  count : l.member-end ≡ length (group_keys l.fn.events l.leader);
  settled : HasSettled (take l.member (group_keys l.fn.events l.leader)) l.processors l.fn.events l.events;
}
