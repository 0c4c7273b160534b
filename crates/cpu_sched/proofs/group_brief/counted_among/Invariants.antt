use Rattle.std.proofs.Common.{◌≡◌, ◌<◌, ◌≤◌, ◌&&◌, All, filter, length, map, take}
use Rattle.stage_spec.specs.{Effective.{is_ready, is_hardware}, Tight.{masks_of}, Verdict.{with_masks}}
use Rattle.world_spec.specs.Value.{instance_at}
use Rattle.cpu_sched.proofs.group_brief.counted_among.Given as goal

abbrev pub invariant-loop-member : goal.invariant-loop-member
invariant-loop-member l = record {
  events : l.events ≡ with_masks l.world.hardware (filter (λ i. is_ready i.own && is_hardware i) (map (instance_at l.world) (take l.member-index l.members)));
  few : length l.events ≤ l.member-index;
  some : All (λ mask. 0 < mask) (masks_of l.events);
}
