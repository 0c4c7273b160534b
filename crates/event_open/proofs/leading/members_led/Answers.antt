use Rattle.std.proofs.Common.{rules}
use Rattle.std.proofs.Common.{◌≡◌, All, true, sym, subst}
use Rattle.world_spec.specs.Value.{is_live}
use Rattle.event_open.proofs.Leaders.{members-live}
use Rattle.event_open.proofs.leading.members_led.Goals as goal

pub returns-in-Some-clause-there : goal.returns-in-Some-clause-there
returns-in-Some-clause-there c =
    subst (All (λ k. is_live c.args.world.now k ≡ true)) (sym c.members.ensures.members) (members-live c.args.world.now c.in-Some.first c.members.ensures.kept)

pub returns-in-None-clause-members : goal.returns-in-None-clause-members
returns-in-None-clause-members c = search rules
