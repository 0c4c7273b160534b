use Rattle.std.proofs.Common.{ap, ◌∙◌, sym}
use Rattle.world_spec.{specs.StageOf.{stage_of}, proofs.{Accounts.{period-kept, period-stage}, Ways.{period-ways}, Tables.{keys-written}}}
use Rattle.world_spec.specs.Changes as change
use Rattle.perf_world.{specs.Seen.{seen}, proofs.{Kept.{kept-now}, Turning.{stored-after, stay-turned}}}
use Rattle.perf_world.proofs.world.World.set_period.Goals as goal
use Rattle.world_tables.specs.Columns.{way_in}

pub invariant_of-self : goal.invariant_of-self
invariant_of-self c =
    stored-after c.set_period.new.self _ (change.set_period c.args.key c.args.period c.args.self.now) (ap (λ t. seen c.self.inside.pmus t c.self.inside.contexts c.self.inside.families c.self.inside.processors c.self.inside.tasks c.self.inside.used c.self.inside.mapped c.self.inside.next_id) c.set_period.ensures ∙ ap (change.set_period c.args.key c.args.period) c.self.view_is)
    (period-kept c.args.self.now.hardware c.args.self.now c.args.key c.args.period c.requires.live (kept-now (seen c.self.inside.pmus c.self.inside.events c.self.inside.contexts c.self.inside.families c.self.inside.processors c.self.inside.tasks c.self.inside.used c.self.inside.mapped c.self.inside.next_id) c.args.self.now c.self.view_is c.self.invariant.kept))
    (stay-turned c.self.inside.events c.set_period.new.self (seen c.self.inside.pmus c.self.inside.events c.self.inside.contexts c.self.inside.families c.self.inside.processors c.self.inside.tasks c.self.inside.used c.self.inside.mapped c.self.inside.next_id) c.args.self.now (change.set_period c.args.key c.args.period c.args.self.now) c.self.view_is c.self.invariant.turned
    (λ k live. ap (λ t. way_in t k) c.set_period.ensures)
    (λ k live. sym (keys-written c.args.self.now.entries c.args.key.0 _ c.requires.live k.0) ∙ live)
    (λ k live. period-ways c.args.self.now c.args.key c.args.period k)) c.self.invariant.clear

pub returns-clause-stage : goal.returns-clause-stage
returns-clause-stage c =
    ap stage_of (ap (λ t. seen c.self.inside.pmus t c.self.inside.contexts c.self.inside.families c.self.inside.processors c.self.inside.tasks c.self.inside.used c.self.inside.mapped c.self.inside.next_id) c.set_period.ensures ∙ ap (change.set_period c.args.key c.args.period) c.self.view_is)
    ∙ period-stage c.args.self.now.hardware c.args.self.now c.args.key c.args.period (kept-now (seen c.self.inside.pmus c.self.inside.events c.self.inside.contexts c.self.inside.families c.self.inside.processors c.self.inside.tasks c.self.inside.used c.self.inside.mapped c.self.inside.next_id) c.args.self.now c.self.view_is c.self.invariant.kept) c.requires.live
