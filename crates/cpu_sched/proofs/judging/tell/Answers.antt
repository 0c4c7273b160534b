use Rattle.std.proofs.Common.{◌∙◌, sym}
use Rattle.world_spec.specs.StageOf.{group_at}
use Rattle.cpu_sched.proofs.Briefs.{software-uncounted, group-fits}
use Rattle.cpu_sched.proofs.judging.tell.Goals as goal

pub judge-standing-requires-clause-software : goal.judge-standing-requires-clause-software
judge-standing-requires-clause-software g c =
    λ software. c.brief_of-brief.ensures.events ∙ software-uncounted c.args.world.now.hardware (group_at c.args.world.now c.args.leader) (sym c.brief_of-brief.ensures.software ∙ software)

pub judge-standing-requires-clause-masks : goal.judge-standing-requires-clause-masks
judge-standing-requires-clause-masks g c =
    group-fits c.args.world.now.hardware c.args.cpu (group_at c.args.world.now c.args.leader) c.brief_of-brief.result.events c.args.seats.now.counters
    c.requires.hardware (sym c.eligible.ensures ∙ c.if-not-eligible.false) c.brief_of-brief.ensures.events c.brief_of-brief.ensures.some c.requires.counters
