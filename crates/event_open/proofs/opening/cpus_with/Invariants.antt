use Rattle.world_spec.specs.StageOf.{stage_of}
use Rattle.event_open.proofs.Reached.{AreThose}
use Rattle.event_open.proofs.opening.cpus_with.Given as goal

abbrev pub invariant-loop-cpu : goal.invariant-loop-cpu
invariant-loop-cpu l = AreThose (stage_of l.world) l.context l.cpu l.set
