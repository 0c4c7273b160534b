use Rattle.std.proofs.Common.{ap, sym, subst}
use Rattle.world_spec.specs.{Shares.{HaveShares, soft_shares}, Value.{World}, Working.{keys_by_pass}}
use Rattle.work_account.{specs.Visits.{hits_among}, proofs.{Growing.{soft-grows}, Left.{IsButAccounts, soft-stage, soft-stays}, May.{soft-may}}}
use Rattle.work_account.proofs.{Shared.{soft-shared}, Struck.{but-all}}
use Rattle.work_account.specs.declared.happening.Happening.TheVariants as happening
use Rattle.work_account.proofs.account.soft.Goals as goal

pub hit_found-requires-clause-may : goal.hit_found-requires-clause-may
hit_found-requires-clause-may c = soft-may c.args.world.now c.args.cpu c.args.kind c.use_invariant.ensures c.requires.room

pub returns-clause-stage : goal.returns-clause-stage
returns-clause-stage c =
    let hits = hits_among (happening.Soft c.args.kind) c.args.world.now (keys_by_pass c.args.world.now c.args.cpu) in
    soft-stage c.args.world.now c.hit_found.new.world (but-all hits c.args.world.now c.hit_found.new.world c.hit_found.ensures)

pub returns-clause-shares : goal.returns-clause-shares
returns-clause-shares c =
    let w : World = c.args.world.now in
    subst (λ (v : World). HaveShares w v (soft_shares w c.args.cpu c.args.kind)) (sym c.hit_found.ensures) (soft-shared w c.args.cpu c.args.kind c.use_invariant.ensures c.requires.judged)

pub returns-clause-grown : goal.returns-clause-grown
returns-clause-grown c =
    let w : World = c.args.world.now in
    let hits = hits_among (happening.Soft c.args.kind) w (keys_by_pass w c.args.cpu) in
    let rest : IsButAccounts w c.hit_found.new.world = but-all hits w c.hit_found.new.world c.hit_found.ensures in
    soft-grows w c.args.cpu c.args.kind c.use_invariant.ensures c.requires.judged c.hit_found.new.world
    (subst (λ (v : World). HaveShares w v (soft_shares w c.args.cpu c.args.kind)) (sym c.hit_found.ensures) (soft-shared w c.args.cpu c.args.kind c.use_invariant.ensures c.requires.judged))
    (ap (λ (v : World). v.families) rest) (ap (λ (v : World). v.folded) rest)

pub returns-clause-rest : goal.returns-clause-rest
returns-clause-rest c =
    but-all (hits_among (happening.Soft c.args.kind) c.args.world.now (keys_by_pass c.args.world.now c.args.cpu)) c.args.world.now c.hit_found.new.world c.hit_found.ensures

pub returns-clause-rescheduled : goal.returns-clause-rescheduled
returns-clause-rescheduled c = λ other h.
    soft-stays c.args.world.now.hardware c.args.world.now c.hit_found.new.world other
    (but-all (hits_among (happening.Soft c.args.kind) c.args.world.now (keys_by_pass c.args.world.now c.args.cpu)) c.args.world.now c.hit_found.new.world c.hit_found.ensures) h
