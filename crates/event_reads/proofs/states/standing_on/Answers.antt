use Rattle.std.proofs.Common.{◌∙◌, ap, sym}
use Rattle.stage_laws.specs.Narrowing.{has_context}
use Rattle.world_spec.specs.StageOf.{stage_of}
use Rattle.event_reads.proofs.Homes.{out-elsewhere}
use Rattle.event_reads.proofs.states.standing_on.Goals as goal

pub returns-else-has_context : goal.returns-else-has_context
returns-else-has_context c =
    out-elsewhere c.args.world.now.hardware c.args.world.now c.args.cpu c.args.leader c.requires.kept c.requires.leads
    (ap (has_context (stage_of c.args.world.now) c.args.cpu) (sym c.context_of.ensures) ∙ (sym c.has_context.ensures ∙ c.if-has_context.false))
