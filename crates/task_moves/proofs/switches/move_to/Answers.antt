use Rattle.std.proofs.Common.{arith, ◌∙◌}
use Rattle.world_spec.specs.StageOf.{stage_of}
use Rattle.task_moves.proofs.Switching.{free-to, switched-on, others-stay}
use Rattle.task_moves.proofs.switches.move_to.Goals as goal

pub place-requires-clause-free : goal.place-requires-clause-free
place-requires-clause-free c = free-to c.args.world.now.hardware c.args.world.now c.args.cpu c.args.to c.migrates-migrates.ensures.kept c.requires.accepted

pub returns-clause-stage : goal.returns-clause-stage
returns-clause-stage c = c.place.ensures.stage ∙ switched-on (stage_of c.args.world.now) c.args.cpu c.args.to c.requires.changes

pub returns-clause-others : goal.returns-clause-others
returns-clause-others c =
    λ other low apart.
    others-stay c.args.world.now.hardware c.args.world.now c.place.new.self c.args.cpu other c.args.to c.place.ensures.world (omega (arith, low, c.migrates-migrates.ensures.cpus)) apart
