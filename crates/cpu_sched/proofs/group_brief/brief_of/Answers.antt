use Rattle.std.proofs.Common.{◌∙◌, ◌&&◌, not}
use Rattle.stage_spec.specs.Flags.{is_exclusive}
use Rattle.cpu_sched.proofs.Briefs.{members-live}
use Rattle.cpu_sched.proofs.group_brief.brief_of.Goals as goal

pub counted_among-requires-clause-there : goal.counted_among-requires-clause-there
counted_among-requires-clause-there c = members-live c.args.world.now.hardware c.args.world.now c.args.leader c.members-members.result.now c.members-members.ensures.kept c.members-members.ensures.members

pub returns-clause-exclusive : goal.returns-clause-exclusive
returns-clause-exclusive c = c.asks_alone.ensures ∙ (λ i. is_exclusive (c.attr.ensures i) && not (c.is_wholly_software-software.ensures i))
