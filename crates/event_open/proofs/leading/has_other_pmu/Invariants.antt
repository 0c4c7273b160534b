use Rattle.std.{proofs.Common.{◌≡◌, drop}, specs.List.{list_any}}
use Rattle.stage_spec.specs.Opening.{is_other_pmu}
use Rattle.world_spec.specs.Value.{instance_at}
use Rattle.event_open.proofs.leading.has_other_pmu.Given as goal

abbrev pub invariant-loop-member : goal.invariant-loop-member
invariant-loop-member l =
    list_any (λ k. is_other_pmu l.world.hardware l.kind (instance_at l.world k).attr.kind) (drop l.member-index l.members)
    ≡ list_any (λ k. is_other_pmu l.world.hardware l.kind (instance_at l.world k).attr.kind) l.members
