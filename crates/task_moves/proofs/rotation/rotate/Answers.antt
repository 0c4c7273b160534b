use Rattle.std.proofs.Common.{arith, ◌∙◌, ◌<◌, ap, refl, sym}
use Rattle.world_spec.{specs.StageOf.{stage_of}, proofs.Placing.{task-low}}
use Rattle.task_moves.{specs.Turning.{turn_of_task}, proofs.Rotating.{is-rotated, turns, stays, others-stay}}
use Rattle.task_moves.proofs.rotation.rotate.Goals as goal

pub turn_task-requires-clause-task : goal.turn_task-requires-clause-task
turn_task-requires-clause-task c =
    λ t is. task-low c.args.world.now.hardware c.args.world.now c.args.cpu t c.running-task.ensures.kept (sym c.running-task.ensures.task ∙ is)

pub returns-clause-stage : goal.returns-clause-stage
returns-clause-stage c =
    ap stage_of (c.turn_task.ensures ∙ (λ i. turn_of_task c.args.cpu (c.running-task.ensures.task i) (c.turn.ensures i)))
    ∙ is-rotated c.args.world.now.hardware c.args.world.now c.args.cpu c.running-task.ensures.kept refl c.requires.rescheduled.judged (omega (arith, c.requires.cpu, c.running-task.ensures.cpus))

pub returns-clause-turned : goal.returns-clause-turned
returns-clause-turned c =
    let low : c.args.cpu.0 < 8 = omega (arith, c.requires.cpu, c.running-task.ensures.cpus) in
    λ at has waiting.
    turns c.args.world.now.hardware c.args.cpu at (stage_of c.args.world.now) (stage_of c.turn_task.new.world)
    (ap stage_of (c.turn_task.ensures ∙ (λ i. turn_of_task c.args.cpu (c.running-task.ensures.task i) (c.turn.ensures i)))
    ∙ is-rotated c.args.world.now.hardware c.args.world.now c.args.cpu c.running-task.ensures.kept refl c.requires.rescheduled.judged low) low has waiting

pub returns-clause-still : goal.returns-clause-still
returns-clause-still c =
    let low : c.args.cpu.0 < 8 = omega (arith, c.requires.cpu, c.running-task.ensures.cpus) in
    λ at has waiting.
    stays c.args.world.now.hardware c.args.cpu at (stage_of c.args.world.now) (stage_of c.turn_task.new.world)
    (ap stage_of (c.turn_task.ensures ∙ (λ i. turn_of_task c.args.cpu (c.running-task.ensures.task i) (c.turn.ensures i)))
    ∙ is-rotated c.args.world.now.hardware c.args.world.now c.args.cpu c.running-task.ensures.kept refl c.requires.rescheduled.judged low) low has waiting

pub returns-clause-others : goal.returns-clause-others
returns-clause-others c =
    λ other low apart.
    others-stay c.args.world.now.hardware c.args.world.now c.turn_task.new.world c.args.cpu other c.running-task.ensures.kept
    (c.turn_task.ensures ∙ (λ i. turn_of_task c.args.cpu (c.running-task.ensures.task i) (c.turn.ensures i)))
    (omega (arith, c.requires.cpu, c.running-task.ensures.cpus)) (omega (arith, low, c.running-task.ensures.cpus)) apart
