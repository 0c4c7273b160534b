use Rattle.std.{proofs.Common.{◌≡◌, ◌<◌, ◌≤◌, true, drop, length, slice_index_or, slice_set}, specs.List.{fold}}
use Rattle.perf_base.specs.declared.numbers.Key.{Key}
use Rattle.world_spec.specs.Value.{no_leaders, times}
use Rattle.world_tables.specs.Columns.{is_there}
use Rattle.perf_world.specs.Parts.{free_one, behind, HaveRoomBehind}
use Rattle.perf_world.proofs.going.free_siblings.Given as goal

abbrev pub invariant-loop-sibling : goal.invariant-loop-sibling
invariant-loop-sibling l = record {
  there : (k : Key) → 1 ≤ times k (drop l.sibling-index l.siblings) → is_there l.events k ≡ true;
  place : l.at < length l.contexts;
  room : HaveRoomBehind (drop l.sibling-index l.siblings) (slice_index_or l.contexts l.at no_leaders);
  events : fold free_one l.events (drop l.sibling-index l.siblings) ≡ fold free_one l.fn.events l.siblings;
  contexts : slice_set l.contexts l.at (behind (drop l.sibling-index l.siblings) (slice_index_or l.contexts l.at no_leaders))
      ≡ slice_set l.fn.contexts l.at (behind l.siblings (slice_index_or l.fn.contexts l.at no_leaders));
}
