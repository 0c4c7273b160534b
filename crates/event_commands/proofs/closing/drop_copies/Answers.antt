use Rattle.std.proofs.Common.{arith, ap, length}
use Rattle.event_commands.proofs.Families.{all-gone, copy-may_go, none-left, none-yet, one-more, some-left}
use Rattle.event_commands.proofs.closing.drop_copies.Goals as goal

pub loop-gone-init : goal.loop-gone-init
loop-gone-init c = none-yet c.args.event c.args.world.now

pub bounds-copies_of-0 : goal.bounds-copies_of-0
bounds-copies_of-0 c =
    some-left c.args.event c.loop-gone._gone c.args.world.now c.loop-gone.world c.copies_of.result.now c.loop-gone.invariant c.copies_of.ensures.copies
    (omega (arith, c.loop-gone-test.true, ap length c.copies_of-gone-end.ensures.copies))

pub drop_instance-requires : goal.drop_instance-requires
drop_instance-requires c =
    copy-may_go c.loop-gone.world.hardware c.args.event c.loop-gone.world c.copies_of.result.now (record { 0 = 0 }) c.copies_of.ensures.kept c.copies_of.ensures.copies
    (some-left c.args.event c.loop-gone._gone c.args.world.now c.loop-gone.world c.copies_of.result.now c.loop-gone.invariant c.copies_of.ensures.copies
    (omega (arith, c.loop-gone-test.true, ap length c.copies_of-gone-end.ensures.copies)))

pub loop-gone-preserved : goal.loop-gone-preserved
loop-gone-preserved c =
    one-more c.loop-gone.world.hardware c.args.event c.loop-gone._gone c.args.world.now c.loop-gone.world c.drop_instance.new.self c.copies_of.result.now (record { 0 = 0 })
    c.copies_of.ensures.kept c.requires c.loop-gone.invariant c.copies_of.ensures.copies (omega (arith, c.loop-gone-test.true, ap length c.copies_of-gone-end.ensures.copies))
    c.drop_instance.ensures.world c.drop_instance.ensures.stage

pub returns-clause-gone : goal.returns-clause-gone
returns-clause-gone c =
    all-gone c.args.event c.loop-gone._gone c.args.world.now c.loop-gone.world c.loop-gone.invariant (omega (arith, c.loop-gone-test.false, ap length c.copies_of-gone-end.ensures.copies))

pub returns-clause-left : goal.returns-clause-left
returns-clause-left c =
    none-left c.args.event c.loop-gone._gone c.args.world.now c.loop-gone.world c.loop-gone.invariant (omega (arith, c.loop-gone-test.false, ap length c.copies_of-gone-end.ensures.copies))
