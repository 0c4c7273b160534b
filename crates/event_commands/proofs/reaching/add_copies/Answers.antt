use Rattle.std.proofs.Common.{arith}
use Rattle.world_spec.specs.Value.{family_of}
use Rattle.event_commands.proofs.{InTurn.{copy-live}, Processors.{adds-none, adds-same, next-adds, all-adds}}
use Rattle.event_commands.proofs.reaching.add_copies.Goals as goal

pub loop-copy-init : goal.loop-copy-init
loop-copy-init c = adds-none c.args.world.now c.args.cpus.now

pub add_cpu-requires-clause-live : goal.add_cpu-requires-clause-live
add_cpu-requires-clause-live c =
    copy-live c.args.world.now.hardware c.args.world.now c.args.event c.copies_of-copy-items.result.now c.loop-copy.copy-index (record { 0 = 0 }) c.copies_of-copy-items.ensures.kept
    c.copies_of-copy-items.ensures.copies c.loop-copy-test.true

pub loop-copy-preserved : goal.loop-copy-preserved
loop-copy-preserved c =
    next-adds c.args.world.now c.copies_of-copy-items.result.now c.loop-copy.copy-index (record { 0 = 0 }) c.args.cpus.now c.loop-copy.cpus c.add_cpu.new.cpus c.loop-copy-test.true
    c.loop-copy.invariant c.add_cpu.ensures

pub returns : goal.returns
returns c =
    adds-same c.args.world.now c.copies_of-copy-items.result.now (family_of c.args.world.now c.args.event).copies c.args.cpus.now c.loop-copy.cpus c.copies_of-copy-items.ensures.copies
    (all-adds c.args.world.now c.copies_of-copy-items.result.now c.loop-copy.copy-index c.args.cpus.now c.loop-copy.cpus (omega (arith, c.loop-copy-test.false)) c.loop-copy.invariant)
