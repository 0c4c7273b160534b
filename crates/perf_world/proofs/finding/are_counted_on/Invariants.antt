use Rattle.std.{proofs.Common.{◌≡◌, drop}, specs.List.{list_all}}
use Rattle.stage_spec.specs.Hardware.{is_counted_on}
use Rattle.world_tables.specs.Columns.{entry_in}
use Rattle.perf_world.proofs.finding.are_counted_on.Given as goal

abbrev pub invariant-loop-member : goal.invariant-loop-member
invariant-loop-member l =
    list_all (λ k. is_counted_on l.pmus l.cpu (entry_in l.events k).instance.attr.kind) (drop l.member-index l.members)
    ≡ list_all (λ k. is_counted_on l.pmus l.cpu (entry_in l.events k).instance.attr.kind) l.members
