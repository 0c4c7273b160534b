use Rattle.std.proofs.Common.{arith}
use Rattle.event_commands.proofs.Processors.{adds-none, next-added, all-added}
use Rattle.event_commands.proofs.reaching.cpus_reaching.Goals as goal

pub loop-slot-init : goal.loop-slot-init
loop-slot-init c = adds-none c.args.world.now c.new-cpus.result

pub loop-slot-preserved : goal.loop-slot-preserved
loop-slot-preserved c =
    next-added c.args.world.now c.args.slots.now c.loop-slot.slot-index (record { 0 = 0 }) c.new-cpus.result c.loop-slot.cpus c.add_family.new.cpus c.loop-slot-test.true
    c.loop-slot.invariant c.add_family.ensures

pub returns-clause-reaching : goal.returns-clause-reaching
returns-clause-reaching c =
    all-added c.args.world.now c.args.slots.now c.loop-slot.slot-index c.new-cpus.result c.loop-slot.cpus (omega (arith, c.loop-slot-test.false)) c.new-cpus.ensures c.loop-slot.invariant
