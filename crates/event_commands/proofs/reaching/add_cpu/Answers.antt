use Rattle.std.proofs.Common.{ap, sym, ◌∙◌}
use Rattle.stage_laws.specs.Narrowing.{has_context}
use Rattle.world_spec.specs.StageOf.{stage_of}
use Rattle.event_commands.proofs.Processors.{added, same-cpu}
use Rattle.event_commands.proofs.reaching.add_cpu.Goals as goal

pub returns-in-Some : goal.returns-in-Some
returns-in-Some c =
    added c.args.world.now c.args.key c.args.cpus.now c.add_if_there.new.cpus c.in-Some.cpu
    (ap (has_context (stage_of c.args.world.now) c.in-Some.cpu) (sym c.context_of.ensures) ∙ c.in-Some.ensures.has)
    (λ cpu has. same-cpu c.cpu_with.result cpu c.in-Some.cpu (c.cpu_with.ensures.only cpu (ap (has_context (stage_of c.args.world.now) cpu) c.context_of.ensures ∙ has)) c.in-Some.is) c.add_if_there.ensures
