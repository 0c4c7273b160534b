use Rattle.std.proofs.Common.{arith, All, length, ap, subst}
use Rattle.stage_spec.specs.Hardware.{counters_of}
use Rattle.cpu_sched.{specs.Briefs.{briefs_at, IsGroupBrief}, proofs.{Bounded.{pass-few}, Passing.{leads-at}}}
use Rattle.cpu_sched.proofs.brief.take_pass.Goals as goal

pub take_keys-requires-clause-leads : goal.take_keys-requires-clause-leads
take_keys-requires-clause-leads c =
    λ i d low. leads-at c.args.world.now.hardware c.args.world.now c.args.cpu c.args.pass i d c.leaders.result.now c.leaders.ensures.kept c.leaders.ensures.leaders low

pub take_keys-requires-clause-few : goal.take_keys-requires-clause-few
take_keys-requires-clause-few c =
    omega (arith, ap length c.leaders.ensures.leaders, pass-few c.args.world.now c.args.cpu c.args.pass c.leaders.ensures.kept)

pub returns-clause-sound : goal.returns-clause-sound
returns-clause-sound c =
    subst (λ keys. All (IsGroupBrief (counters_of c.args.world.now.hardware c.args.cpu)) (briefs_at c.args.world.now c.args.cpu keys)) c.leaders.ensures.leaders c.take_keys.ensures.sound
