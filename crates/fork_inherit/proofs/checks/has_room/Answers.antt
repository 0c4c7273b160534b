use Rattle.std.proofs.Common.{arith, true, false, ◌+◌, ◌≤◌, List, slice_index_or, subst, sym, ap, ◌∙◌}
use Rattle.perf_base.specs.declared.numbers.Key.{Key}
use Rattle.perf_base.specs.declared.standing.Context.TheVariants as context
use Rattle.stage_spec.specs.{Forks.{new_copies}, Stage.{live_copies, lists_of}}
use Rattle.world_spec.{specs.{StageOf.{stage_of}, Value.{times, leaders_of}}, proofs.Copies.{times-at}}
use Rattle.fork_inherit.{specs.Copies.{copies_of_all}, proofs.Room.{list-leads, copies-new, room-left, no-room}}
use Rattle.fork_inherit.proofs.checks.has_room.Goals as goal

pub room_beside-requires : goal.room_beside-requires
room_beside-requires c i d low =
    let k : Key = slice_index_or c.list.result.now i d in
    list-leads c.args.world.now.hardware c.args.world.now (context.Task c.args.parent) true c.list.ensures.kept k
    (subst (λ (keys : List Key). 1 ≤ times k keys) c.list.ensures.list (times-at c.list.result.now i d low))

pub room_beside-requires-in-Some : goal.room_beside-requires-in-Some
room_beside-requires-in-Some c i d low =
    let k : Key = slice_index_or c.list-in-Some.result.now i d in
    list-leads c.args.world.now.hardware c.args.world.now (context.Task c.args.parent) false c.list.ensures.kept k
    (subst (λ (keys : List Key). 1 ≤ times k keys) c.list-in-Some.ensures.list (times-at c.list-in-Some.result.now i d low))

pub returns-in-Some : goal.returns-in-Some
returns-in-Some c =
    c.is_some.ensures
    ∙ room-left c.room_beside-in-Some.result (live_copies (stage_of c.args.world.now)) (copies_of_all c.args.world.now c.list.result.now) (copies_of_all c.args.world.now c.list-in-Some.result.now)
    c.in-Some.left (new_copies (lists_of (stage_of c.args.world.now) (context.Task c.args.parent)))
    (omega (arith, c.in-Some.ensures.some, c.copies-room.ensures.copies, c.copies-room.ensures.few))
    (copies-new c.args.world.now.hardware c.args.world.now (context.Task c.args.parent) c.list.ensures.kept
    ∙ (λ i. copies_of_all c.args.world.now (sym c.list.ensures.list i) + copies_of_all c.args.world.now (sym c.list-in-Some.ensures.list i)))
    c.room_beside-in-Some.ensures.some c.room_beside-in-Some.ensures.none

pub returns-in-None : goal.returns-in-None
returns-in-None c =
    no-room (live_copies (stage_of c.args.world.now)) (copies_of_all c.args.world.now c.list.result.now)
    (copies_of_all c.args.world.now (leaders_of c.args.world.now (context.Task c.args.parent)).flexible) (new_copies (lists_of (stage_of c.args.world.now) (context.Task c.args.parent)))
    (omega (arith, c.in-None.ensures.none, c.copies-room.ensures.copies, c.copies-room.ensures.few))
    (copies-new c.args.world.now.hardware c.args.world.now (context.Task c.args.parent) c.list.ensures.kept
    ∙ ap (λ (keys : List Key). copies_of_all c.args.world.now keys + copies_of_all c.args.world.now (leaders_of c.args.world.now (context.Task c.args.parent)).flexible) (sym c.list.ensures.list))
