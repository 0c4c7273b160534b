use Rattle.std.proofs.Common.{sym, subst}
use Rattle.world_spec.specs.Shares.{HaveShares}
use Rattle.machine.{specs.Switched.{migration_shares}, proofs.TaskChange.{none-given}}
use Rattle.machine.proofs.switching.migrate_if.Goals as goal

pub returns-else-migrates-clause-shares : goal.returns-else-migrates-clause-shares
returns-else-migrates-clause-shares c =
    subst (λ b. HaveShares c.args.world.now c.args.world.now (migration_shares b c.args.world.now c.args.cpu)) (sym c.if-migrates.false) (none-given c.args.world.now c.args.cpu)
