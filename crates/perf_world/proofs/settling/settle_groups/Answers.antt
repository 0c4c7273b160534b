use Rattle.std.proofs.{Common.{◌≡◌, ◌∙◌, arith, List, ap, sym, subst, take, slice_index_or}, lemmas.List.{take_all}}
use Rattle.perf_base.specs.declared.numbers.Key.{Key}
use Rattle.world_tables.specs.Columns.{Columns, is_there}
use Rattle.perf_world.{specs.Settling.{group_keys, list_keys, AreLed, HasSettled}, proofs.Turning.{none-settled, group-settled, group-in}}
use Rattle.perf_world.proofs.settling.settle_groups.Goals as goal
use Rattle.world_spec.proofs.Copies.{times-at}

pub loop-leader-init : goal.loop-leader-init
loop-leader-init c = none-settled c.args.processors.now c.args.events.now

pub settle_group-requires-clause-there : goal.settle_group-requires-clause-there
settle_group-requires-clause-there c =
    ap (λ (t : Columns). is_there t (slice_index_or c.args.leaders.now c.loop-leader.leader-index (record { 0 = 0 }))) c.loop-leader.invariant.same
    ∙ c.requires.there _ (times-at c.args.leaders.now c.loop-leader.leader-index (record { 0 = 0 }) c.loop-leader-test.true)

pub settle_group-requires-clause-led : goal.settle_group-requires-clause-led
settle_group-requires-clause-led c =
    let q : Key = slice_index_or c.args.leaders.now c.loop-leader.leader-index (record { 0 = 0 }) in
    subst (λ (t : Columns). AreLed t (group_keys t q)) (sym c.loop-leader.invariant.same)
    (λ k some. c.requires.led k (group-in c.args.events.now c.args.leaders.now c.loop-leader.leader-index (record { 0 = 0 }) k c.loop-leader-test.true some))

pub loop-leader-preserved : goal.loop-leader-preserved
loop-leader-preserved c =
    group-settled c.args.processors.now c.args.leaders.now c.loop-leader.leader-index (record { 0 = 0 }) c.args.events.now c.loop-leader.events c.settle_group.new.events c.loop-leader-test.true
    c.loop-leader.invariant c.settle_group.ensures

pub returns : goal.returns
returns c =
    let whole : take c.loop-leader.leader-index c.args.leaders.now ≡ c.args.leaders.now =
    take_all c.loop-leader.leader-index c.args.leaders.now (omega (arith, c.loop-leader-test.false)) in
    subst (λ (keys : List Key). HasSettled (list_keys c.args.events.now keys) c.args.processors.now c.args.events.now c.loop-leader.events) whole c.loop-leader.invariant
