use Rattle.std.proofs.Common.{◌≤◌, List, subst, slice_index_or}
use Rattle.perf_base.specs.declared.numbers.Key.{Key}
use Rattle.world_spec.specs.Value.{times}
use Rattle.perf_world.{specs.Seen.{seen}, proofs.Room.{copy-there}}
use Rattle.perf_world.proofs.world.World.next_copy.Goals as goal
use Rattle.world_spec.proofs.Copies.{times-at}

pub first_after-requires : goal.first_after-requires
first_after-requires c i d low =
    let k : Key = slice_index_or c.copies.result.now i d in
    (copy-there c.self.inside.pmus (seen c.self.inside.pmus c.self.inside.events c.self.inside.contexts c.self.inside.families c.self.inside.processors c.self.inside.tasks c.self.inside.used c.self.inside.mapped c.self.inside.next_id) c.self.invariant.kept c.instance.result.now.event.0 k (subst (λ (keys : List Key). 1 ≤ times k keys) c.copies.ensures (times-at c.copies.result.now i d low))).0
