use Rattle.std.proofs.Common.{ap, ◌∙◌, sym}
use Rattle.world_spec.{specs.StageOf.{stage_of}, proofs.{Keeping.{ring-kept, ring-stage}, Ways.{ring-ways}, Tables.{keys-written}}}
use Rattle.world_spec.specs.Changes as change
use Rattle.perf_world.{specs.Seen.{seen}, proofs.{Kept.{kept-now}, Turning.{stored-after, stay-turned}}}
use Rattle.perf_world.proofs.world.World.set_ring.Goals as goal
use Rattle.world_tables.specs.Columns.{way_in}

pub invariant_of-self : goal.invariant_of-self
invariant_of-self c =
    stored-after c.set_ring.new.self _ (change.set_ring c.args.key c.args.ring c.args.owner c.args.self.now) ((λ i. seen c.self.inside.pmus (c.set_ring.ensures i) c.self.inside.contexts c.self.inside.families c.self.inside.processors c.self.inside.tasks c.self.inside.used (c.remember_own.ensures i) c.self.inside.next_id) ∙ ap (change.set_ring c.args.key c.args.ring c.args.owner) c.self.view_is)
    (ring-kept c.args.self.now.hardware c.args.self.now c.args.key c.args.ring c.args.owner c.requires (kept-now (seen c.self.inside.pmus c.self.inside.events c.self.inside.contexts c.self.inside.families c.self.inside.processors c.self.inside.tasks c.self.inside.used c.self.inside.mapped c.self.inside.next_id) c.args.self.now c.self.view_is c.self.invariant.kept))
    (stay-turned c.self.inside.events c.set_ring.new.self (seen c.self.inside.pmus c.self.inside.events c.self.inside.contexts c.self.inside.families c.self.inside.processors c.self.inside.tasks c.self.inside.used c.self.inside.mapped c.self.inside.next_id) c.args.self.now (change.set_ring c.args.key c.args.ring c.args.owner c.args.self.now) c.self.view_is c.self.invariant.turned
    (λ k live. ap (λ t. way_in t k) c.set_ring.ensures)
    (λ k live. sym (keys-written c.args.self.now.entries c.args.key.0 _ c.requires k.0) ∙ live)
    (λ k live. ring-ways c.args.self.now c.args.key c.args.ring c.args.owner k)) c.self.invariant.clear

pub returns-clause-stage : goal.returns-clause-stage
returns-clause-stage c =
    ap stage_of ((λ i. seen c.self.inside.pmus (c.set_ring.ensures i) c.self.inside.contexts c.self.inside.families c.self.inside.processors c.self.inside.tasks c.self.inside.used (c.remember_own.ensures i) c.self.inside.next_id) ∙ ap (change.set_ring c.args.key c.args.ring c.args.owner) c.self.view_is)
    ∙ ring-stage c.args.self.now.hardware c.args.self.now c.args.key c.args.ring c.args.owner (kept-now (seen c.self.inside.pmus c.self.inside.events c.self.inside.contexts c.self.inside.families c.self.inside.processors c.self.inside.tasks c.self.inside.used c.self.inside.mapped c.self.inside.next_id) c.args.self.now c.self.view_is c.self.invariant.kept) c.requires
