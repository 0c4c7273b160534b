use Rattle.std.proofs.{Common.{arith, ◌≡◌, ◌∙◌, List, length, ap, subst}, lemmas.List.{take_all}}
use Rattle.perf_base.specs.declared.numbers.Key.{Key}
use Rattle.perf_base.specs.declared.standing.Context.TheVariants as context
use Rattle.world_spec.specs.Value.{leaders_of}
use Rattle.fork_inherit.{specs.Copies.{AreCopied, inherited_keys, leaders_from}, proofs.{Copied.{copied-none}, Listed.{list-here, as-picked}}}
use Rattle.fork_inherit.proofs.copying.inherit_list.Goals as goal

pub loop-place-init : goal.loop-place-init
loop-place-init c = copied-none c.args.child c.args.world.now c.use_invariant.ensures

pub bounds-list-place : goal.bounds-list-place
bounds-list-place c =
    (list-here c.args.child c.args.parent c.args.pinned c.args.world.now c.loop-place.world c.loop-place.place c.list-place-end.result.now c.list.result.now (record { 0 = 0 })
    c.use_invariant.ensures c.requires.may c.loop-place.invariant c.list-place-end.ensures.list c.loop-place-test.true c.list.ensures.list).low

pub inherit_if_wanted-requires-clause-live : goal.inherit_if_wanted-requires-clause-live
inherit_if_wanted-requires-clause-live c =
    (list-here c.args.child c.args.parent c.args.pinned c.args.world.now c.loop-place.world c.loop-place.place c.list-place-end.result.now c.list.result.now (record { 0 = 0 })
    c.use_invariant.ensures c.requires.may c.loop-place.invariant c.list-place-end.ensures.list c.loop-place-test.true c.list.ensures.list).at.live

pub inherit_if_wanted-requires-clause-may : goal.inherit_if_wanted-requires-clause-may
inherit_if_wanted-requires-clause-may c =
    (list-here c.args.child c.args.parent c.args.pinned c.args.world.now c.loop-place.world c.loop-place.place c.list-place-end.result.now c.list.result.now (record { 0 = 0 })
    c.use_invariant.ensures c.requires.may c.loop-place.invariant c.list-place-end.ensures.list c.loop-place-test.true c.list.ensures.list).at.may

pub loop-place-preserved : goal.loop-place-preserved
loop-place-preserved c =
    (list-here c.args.child c.args.parent c.args.pinned c.args.world.now c.loop-place.world c.loop-place.place c.list-place-end.result.now c.list.result.now (record { 0 = 0 })
    c.use_invariant.ensures c.requires.may c.loop-place.invariant c.list-place-end.ensures.list c.loop-place-test.true c.list.ensures.list).at.next c.inherit_if_wanted.new.world c.inherit_if_wanted.ensures.copied

pub returns : goal.returns
returns c =
    let end : c.list-place-end.result.now ≡ leaders_from c.args.world.now c.args.parent c.args.pinned =
    c.list-place-end.ensures.list ∙ as-picked c.args.pinned (leaders_of c.args.world.now (context.Task c.args.parent)) in
    record {
      copied = subst (λ (keys : List Key). AreCopied c.args.child c.args.world.now c.loop-place.world (inherited_keys c.args.world.now keys))
          (take_all c.loop-place.place (leaders_from c.args.world.now c.args.parent c.args.pinned) (omega (arith, c.loop-place-test.false, ap length end))) c.loop-place.invariant;
    }
