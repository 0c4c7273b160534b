use Rattle.std.proofs.Common.{rules}
use Rattle.std.proofs.Common.{arith, ◌∙◌, ap, sym, length}
use Rattle.stage_spec.specs.Hardware.{Hardware}
use Rattle.world_spec.proofs.Placing.{task-low}
use Rattle.exit_fold.proofs.Exited.{still-live, exit-stage, others-stand}
use Rattle.exit_fold.proofs.exits.exit.Goals as goal

pub fold_copies-requires-clause-task : goal.fold_copies-requires-clause-task
fold_copies-requires-clause-task c =
    task-low c.args.world.now.hardware c.args.world.now c.args.cpu c.in-Some.task c.pmus.ensures.kept (sym c.task_on.ensures ∙ c.in-Some.is)

pub end_task-requires-clause-live : goal.end_task-requires-clause-live
end_task-requires-clause-live c =
    still-live c.args.world.now.hardware c.args.world.now c.fold_copies.new.world c.place.new.self c.args.cpu c.in-Some.task c.pmus.ensures.kept
    (sym c.task_on.ensures ∙ c.in-Some.is) c.fold_copies.ensures.folded c.place.ensures.world

pub returns-clause-stage : goal.returns-clause-stage
returns-clause-stage c =
    exit-stage c.args.world.now c.fold_copies.new.world c.place.new.self c.end_task.new.self c.args.cpu c.in-Some.task
    (sym c.task_on.ensures ∙ c.in-Some.is) c.fold_copies.ensures.folded c.place.ensures.world c.end_task.ensures.world

pub returns-clause-others : goal.returns-clause-others
returns-clause-others c =
    λ other low apart.
    others-stand c.args.world.now.hardware c.args.world.now c.fold_copies.new.world c.place.new.self c.end_task.new.self c.args.cpu other c.in-Some.task c.pmus.ensures.kept
    (sym c.task_on.ensures ∙ c.in-Some.is) c.fold_copies.ensures.folded c.place.ensures.world c.end_task.ensures.world
    (omega (arith, low, c.pmus.ensures.kept.shape.running, ap (λ (hw : Hardware). length hw.cpu_pmus) c.pmus.ensures.pmus, c.cpus-cpus.ensures.sound.cpus.1)) apart

pub returns-clause-processors : goal.returns-clause-processors
returns-clause-processors c = search rules

pub returns-in_default-clause-refused : goal.returns-in_default-clause-refused
returns-in_default-clause-refused c = search rules
