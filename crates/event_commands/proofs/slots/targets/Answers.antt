use Rattle.std.proofs.Common.{All, true, ap, sym, subst, map, ◌≡◌, ◌∙◌}
use Rattle.stage_spec.specs.Commands as commands
use Rattle.world_spec.specs.{StageOf.{stage_of}, Value.{is_live, entry_at, instance_at}}
use Rattle.world_spec.proofs.{Along.{members-live}, Families.{closed-none, open-some}}
use Rattle.event_commands.proofs.Targets.{one-slot, group-slots}
use Rattle.event_commands.proofs.slots.targets.Goals as goal

pub returns-in_default-clause-refused : goal.returns-in_default-clause-refused
returns-in_default-clause-refused c = closed-none c.args.world.now.hardware c.args.world.now c.args.event c.key_of.ensures.kept (sym c.key_of.ensures.key ∙ c.in_default.is)

pub slots_of-requires-clause-there : goal.slots_of-requires-clause-there
slots_of-requires-clause-there c =
    subst (All (λ k. is_live c.args.world.now k ≡ true)) (sym c.members.ensures.members)
    (members-live c.args.world.now.hardware c.args.world.now c.leader_of.result c.key_of.ensures.kept)

pub returns-then-group-clause-accepted : goal.returns-then-group-clause-accepted
returns-then-group-clause-accepted c =
    open-some c.args.world.now.hardware c.args.world.now c.args.event c.in-Some.key c.key_of.ensures.kept (sym c.key_of.ensures.key ∙ c.in-Some.is)

pub returns-then-group-clause-slots : goal.returns-then-group-clause-slots
returns-then-group-clause-slots c =
    c.slots_of.ensures
    ∙ (ap (map (λ k. (instance_at c.args.world.now k).event)) (c.members.ensures.members ∙ ap (λ k. (entry_at c.args.world.now k).members) c.leader_of.ensures)
    ∙ (group-slots c.args.world.now.hardware c.args.world.now c.args.event c.in-Some.key c.key_of.ensures.kept (sym c.key_of.ensures.key ∙ c.in-Some.is)
    ∙ ap (commands.targets (stage_of c.args.world.now) c.args.event) (sym c.if-group.true)))

pub returns-else-group-clause-accepted : goal.returns-else-group-clause-accepted
returns-else-group-clause-accepted c =
    open-some c.args.world.now.hardware c.args.world.now c.args.event c.in-Some.key c.key_of.ensures.kept (sym c.key_of.ensures.key ∙ c.in-Some.is)

pub returns-else-group-clause-slots : goal.returns-else-group-clause-slots
returns-else-group-clause-slots c =
    c.slots_of-else-group.ensures
    ∙ (one-slot c.args.world.now.hardware c.args.world.now c.args.event c.in-Some.key c.key_of.ensures.kept (sym c.key_of.ensures.key ∙ c.in-Some.is)
    ∙ ap (commands.targets (stage_of c.args.world.now) c.args.event) (sym c.if-group.false))
