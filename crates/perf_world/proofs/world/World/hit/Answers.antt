use Rattle.std.proofs.Common.{arith, ap, ◌∙◌, refl}
use Rattle.world_spec.{specs.{Value.{account_at}, StageOf.{stage_of}}, proofs.{Accounts.{hit-kept, hit-stage}, Ways.{other-ways}}}
use Rattle.world_spec.specs.Changes as change
use Rattle.perf_world.{proofs.{Kept.{own-count, kept-now}, Turning.{stored-after, stay-turned, follows-none}}, specs.Seen.{seen}}
use Rattle.perf_world.proofs.world.World.hit.Goals as goal
use Rattle.world_tables.specs.Columns.{way_in}

pub invariant_of-self : goal.invariant_of-self
invariant_of-self g c =
    stored-after c.hit.new.self _ (change.hit c.args.key c.args.n c.args.self.now) (ap (λ t. seen c.self.inside.pmus t c.self.inside.contexts c.self.inside.families c.self.inside.processors c.self.inside.tasks c.self.inside.used c.self.inside.mapped c.self.inside.next_id) c.hit.ensures.account ∙ ap (change.hit c.args.key c.args.n) c.self.view_is)
    (hit-kept c.args.self.now.hardware c.args.self.now c.args.key c.args.n c.requires.live c.requires.fits (kept-now (seen c.self.inside.pmus c.self.inside.events c.self.inside.contexts c.self.inside.families c.self.inside.processors c.self.inside.tasks c.self.inside.used c.self.inside.mapped c.self.inside.next_id) c.args.self.now c.self.view_is c.self.invariant.kept))
    (stay-turned c.self.inside.events c.hit.new.self (seen c.self.inside.pmus c.self.inside.events c.self.inside.contexts c.self.inside.families c.self.inside.processors c.self.inside.tasks c.self.inside.used c.self.inside.mapped c.self.inside.next_id) c.args.self.now (change.hit c.args.key c.args.n c.args.self.now) c.self.view_is c.self.invariant.turned
    (λ k live. ap (λ t. way_in t k) c.hit.ensures.account)
    (λ k live. live)
    (λ k live. other-ways c.args.self.now (change.hit c.args.key c.args.n c.args.self.now) k refl refl refl)) c.self.invariant.clear

pub returns-clause-stage : goal.returns-clause-stage
returns-clause-stage g c =
    ap stage_of (ap (λ t. seen c.self.inside.pmus t c.self.inside.contexts c.self.inside.families c.self.inside.processors c.self.inside.tasks c.self.inside.used c.self.inside.mapped c.self.inside.next_id) c.hit.ensures.account ∙ ap (change.hit c.args.key c.args.n) c.self.view_is)
    ∙ hit-stage c.args.self.now c.args.key c.args.n

pub hit-requires-clause-fits : goal.hit-requires-clause-fits
hit-requires-clause-fits g c =
    omega (arith, c.requires.fits, own-count c.args.self.now.hardware c.args.self.now c.args.key (kept-now (seen c.self.inside.pmus c.self.inside.events c.self.inside.contexts c.self.inside.families c.self.inside.processors c.self.inside.tasks c.self.inside.used c.self.inside.mapped c.self.inside.next_id) c.args.self.now c.self.view_is c.self.invariant.kept) c.requires.live, ap (λ w. (account_at w c.args.key).sums.count) c.self.view_is)

pub hit-requires-clause-apart : goal.hit-requires-clause-apart
hit-requires-clause-apart g c = follows-none c.self.inside.events c.args.self.now (seen c.self.inside.pmus c.self.inside.events c.self.inside.contexts c.self.inside.families c.self.inside.processors c.self.inside.tasks c.self.inside.used c.self.inside.mapped c.self.inside.next_id) c.args.key c.self.view_is c.self.invariant.turned c.requires.live c.requires.alone
