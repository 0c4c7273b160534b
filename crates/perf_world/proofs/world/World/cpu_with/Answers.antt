use Rattle.std.proofs.Common.{◌∙◌, ap, sym}
use Rattle.stage_spec.specs.Replies.{cpu_with}
use Rattle.world_spec.specs.StageOf.{stage_of}
use Rattle.perf_world.proofs.world.World.cpu_with.Goals as goal

pub returns-in-Task-clause-cpu : goal.returns-in-Task-clause-cpu
returns-in-Task-clause-cpu c = c.cpu_of.ensures.cpu ∙ ap (cpu_with (stage_of c.args.self.now)) (sym c.in-Task.is)
