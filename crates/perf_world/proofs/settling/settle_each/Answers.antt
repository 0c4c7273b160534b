use Rattle.std.proofs.{Common.{◌≡◌, arith, List, subst, take}, lemmas.List.{take_all}}
use Rattle.perf_base.specs.declared.numbers.Key.{Key}
use Rattle.perf_world.{specs.Settling.{HasSettled}, proofs.Turning.{none-settled, next-settled, still-led}}
use Rattle.perf_world.proofs.settling.settle_each.Goals as goal
use Rattle.world_spec.proofs.Copies.{times-at}

pub loop-key-init : goal.loop-key-init
loop-key-init c = none-settled c.args.processors.now c.args.events.now

pub settle-requires-clause-there : goal.settle-requires-clause-there
settle-requires-clause-there c =
    (still-led c.args.events.now c.loop-key.events c.args.keys.now c.loop-key.invariant.same c.requires.led _
    (times-at c.args.keys.now c.loop-key.key-index (record { 0 = 0 }) c.loop-key-test.true)).0

pub settle-requires-clause-leader : goal.settle-requires-clause-leader
settle-requires-clause-leader c =
    (still-led c.args.events.now c.loop-key.events c.args.keys.now c.loop-key.invariant.same c.requires.led _
    (times-at c.args.keys.now c.loop-key.key-index (record { 0 = 0 }) c.loop-key-test.true)).1

pub loop-key-preserved : goal.loop-key-preserved
loop-key-preserved c =
    next-settled c.args.processors.now c.args.keys.now c.loop-key.key-index (record { 0 = 0 }) c.args.events.now c.loop-key.events c.settle.new.events c.loop-key-test.true c.loop-key.invariant c.settle.ensures

pub returns : goal.returns
returns c =
    let whole : take c.loop-key.key-index c.args.keys.now ≡ c.args.keys.now = take_all c.loop-key.key-index c.args.keys.now (omega (arith, c.loop-key-test.false)) in
    subst (λ (keys : List Key). HasSettled keys c.args.processors.now c.args.events.now c.loop-key.events) whole c.loop-key.invariant
