use Rattle.std.proofs.Common.{◌∙◌, ap, sym}
use Rattle.perf_base.specs.declared.numbers.Key.{Key}
use Rattle.stage_spec.specs.{Effective.{state_in}, Replies.{why_by}}
use Rattle.world_spec.specs.{StageOf.{group_at, stage_of}, Value.{instance_at}}
use Rattle.world_spec.proofs.Families.{closed-none, open-some}
use Rattle.event_reads.proofs.Opened.{why-opened}
use Rattle.event_reads.proofs.asking.why.Goals as goal

pub returns-in-None-clause-refused : goal.returns-in-None-clause-refused
returns-in-None-clause-refused c = closed-none c.args.world.now.hardware c.args.world.now c.args.event c.key_of.ensures.kept (sym c.key_of.ensures.key ∙ c.in-None.is)

pub returns-in-Some-clause-accepted : goal.returns-in-Some-clause-accepted
returns-in-Some-clause-accepted c = open-some c.args.world.now.hardware c.args.world.now c.args.event c.in-Some.key c.key_of.ensures.kept (sym c.key_of.ensures.key ∙ c.in-Some.is)

pub returns-in-Some-clause-why : goal.returns-in-Some-clause-why
returns-in-Some-clause-why c =
    c.why_member.ensures
    ∙ (ap (λ (leader : Key). why_by c.args.world.now.hardware (stage_of c.args.world.now) (group_at c.args.world.now leader) (instance_at c.args.world.now c.in-Some.key)
    (state_in (group_at c.args.world.now leader) (instance_at c.args.world.now c.in-Some.key))) c.leader_of.ensures
    ∙ why-opened c.args.world.now.hardware c.args.world.now c.args.event c.in-Some.key c.key_of.ensures.kept (sym c.key_of.ensures.key ∙ c.in-Some.is))
