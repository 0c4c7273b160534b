use Rattle.std.proofs.Common.{ap, ◌∙◌, refl}
use Rattle.world_spec.{specs.StageOf.{stage_of}, proofs.{Accounts.{reset-kept, reset-stage}, Ways.{other-ways}}}
use Rattle.world_spec.specs.Changes as change
use Rattle.perf_world.{specs.Seen.{seen}, proofs.{Kept.{kept-now}, Turning.{stored-after, stay-turned}}}
use Rattle.perf_world.proofs.world.World.reset_count.Goals as goal
use Rattle.world_tables.specs.Columns.{way_in}

pub invariant_of-self : goal.invariant_of-self
invariant_of-self c =
    stored-after c.reset.new.self _ (change.reset_count c.args.key c.args.self.now) (ap (λ t. seen c.self.inside.pmus t c.self.inside.contexts c.self.inside.families c.self.inside.processors c.self.inside.tasks c.self.inside.used c.self.inside.mapped c.self.inside.next_id) c.reset.ensures ∙ ap (change.reset_count c.args.key) c.self.view_is)
    (reset-kept c.args.self.now.hardware c.args.self.now c.args.key c.requires (kept-now (seen c.self.inside.pmus c.self.inside.events c.self.inside.contexts c.self.inside.families c.self.inside.processors c.self.inside.tasks c.self.inside.used c.self.inside.mapped c.self.inside.next_id) c.args.self.now c.self.view_is c.self.invariant.kept))
    (stay-turned c.self.inside.events c.reset.new.self (seen c.self.inside.pmus c.self.inside.events c.self.inside.contexts c.self.inside.families c.self.inside.processors c.self.inside.tasks c.self.inside.used c.self.inside.mapped c.self.inside.next_id) c.args.self.now (change.reset_count c.args.key c.args.self.now) c.self.view_is c.self.invariant.turned
    (λ k live. ap (λ t. way_in t k) c.reset.ensures)
    (λ k live. live)
    (λ k live. other-ways c.args.self.now (change.reset_count c.args.key c.args.self.now) k refl refl refl)) c.self.invariant.clear

pub returns-clause-stage : goal.returns-clause-stage
returns-clause-stage c =
    ap stage_of (ap (λ t. seen c.self.inside.pmus t c.self.inside.contexts c.self.inside.families c.self.inside.processors c.self.inside.tasks c.self.inside.used c.self.inside.mapped c.self.inside.next_id) c.reset.ensures ∙ ap (change.reset_count c.args.key) c.self.view_is)
    ∙ reset-stage c.args.self.now c.args.key
