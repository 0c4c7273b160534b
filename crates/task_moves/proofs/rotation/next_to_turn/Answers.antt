use Rattle.std.proofs.Common.{◌≤◌, List, slice_index_or, subst}
use Rattle.perf_base.specs.declared.numbers.Key.{Key}
use Rattle.world_spec.{specs.Value.{times}, proofs.Copies.{times-at}}
use Rattle.task_moves.proofs.Turning.{flexible-there}
use Rattle.task_moves.proofs.rotation.next_to_turn.Goals as goal

pub some_waits-requires-clause-leads : goal.some_waits-requires-clause-leads
some_waits-requires-clause-leads c i d low =
    let k : Key = slice_index_or c.list-leaders.result.now i d in
    (flexible-there c.args.world.now.hardware c.args.world.now c.args.context k c.list-leaders.ensures.kept (subst (λ (keys : List Key). 1 ≤ times k keys) c.list-leaders.ensures.list (times-at c.list-leaders.result.now i d low))).0

pub first_taker-requires-clause-leads : goal.first_taker-requires-clause-leads
first_taker-requires-clause-leads c i d low =
    let k : Key = slice_index_or c.list-leaders.result.now i d in
    (flexible-there c.args.world.now.hardware c.args.world.now c.args.context k c.list-leaders.ensures.kept (subst (λ (keys : List Key). 1 ≤ times k keys) c.list-leaders.ensures.list (times-at c.list-leaders.result.now i d low))).0
