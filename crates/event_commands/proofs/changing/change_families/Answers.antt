use Rattle.std.proofs.Common.{arith}
use Rattle.event_commands.proofs.InTurn.{changed-none, next-family, all-families}
use Rattle.event_commands.proofs.changing.change_families.Goals as goal

pub loop-slot-init : goal.loop-slot-init
loop-slot-init c = changed-none c.args.command c.args.world.now

pub loop-slot-preserved : goal.loop-slot-preserved
loop-slot-preserved c =
    next-family c.args.command c.args.world.now c.loop-slot.world c.change_family.new.world c.args.slots.now c.loop-slot.slot-index (record { 0 = 0 }) c.loop-slot.invariant
    c.loop-slot-test.true c.change_family.ensures

pub returns : goal.returns
returns c = all-families c.args.command c.args.world.now c.loop-slot.world c.args.slots.now c.loop-slot.slot-index c.loop-slot.invariant (omega (arith, c.loop-slot-test.false))
