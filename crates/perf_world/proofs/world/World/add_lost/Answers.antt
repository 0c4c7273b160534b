use Rattle.std.proofs.Common.{◌≡◌, ◌+◌, true, ap, ◌∙◌, slice_set, slice_index_or, refl, subst, sym}
use Rattle.world_spec.proofs.{Keeping.{lost-kept}, Ways.{other-ways}}
use Rattle.world_spec.specs.Changes as change
use Rattle.perf_world.{specs.Seen.{seen}, proofs.{Kept.{kept-now}, Turning.{stored-after, stay-turned}}}
use Rattle.perf_world.proofs.Clear.{clear-lost, other-slot}
use Rattle.stage_spec.specs.declared.instance.Instance.{Instance}
use Rattle.world_spec.specs.Value.{World, is_live}
use Rattle.perf_world.proofs.world.World.add_lost.Goals as goal

pub invariant_of-self : goal.invariant_of-self
invariant_of-self c =
    stored-after c.self.inside.events _ (change.add_lost c.args.key c.args.self.now) (ap (λ t. seen c.self.inside.pmus c.self.inside.events c.self.inside.contexts t c.self.inside.processors c.self.inside.tasks c.self.inside.used c.self.inside.mapped c.self.inside.next_id) c.add_lost.ensures ∙ (ap (λ x. seen c.self.inside.pmus c.self.inside.events c.self.inside.contexts (record c.self.inside.families { lost = slice_set c.self.inside.families.lost x.event.0 (slice_index_or c.self.inside.families.lost x.event.0 0 + 1) }) c.self.inside.processors c.self.inside.tasks c.self.inside.used c.self.inside.mapped c.self.inside.next_id) c.instance.ensures ∙ ap (change.add_lost c.args.key) c.self.view_is))
    (lost-kept c.args.self.now.hardware c.args.self.now c.args.key c.requires.fits (kept-now (seen c.self.inside.pmus c.self.inside.events c.self.inside.contexts c.self.inside.families c.self.inside.processors c.self.inside.tasks c.self.inside.used c.self.inside.mapped c.self.inside.next_id) c.args.self.now c.self.view_is c.self.invariant.kept))
    (stay-turned c.self.inside.events c.self.inside.events (seen c.self.inside.pmus c.self.inside.events c.self.inside.contexts c.self.inside.families c.self.inside.processors c.self.inside.tasks c.self.inside.used c.self.inside.mapped c.self.inside.next_id) c.args.self.now (change.add_lost c.args.key c.args.self.now) c.self.view_is c.self.invariant.turned
    (λ k live. refl)
    (λ k live. live)
    (λ k live. other-ways c.args.self.now (change.add_lost c.args.key c.args.self.now) k refl refl refl))
    (clear-lost c.self.inside.used _ c.add_lost.new.self _ _ c.add_lost.ensures
    (λ e unused same.
    let old : World = seen c.self.inside.pmus c.self.inside.events c.self.inside.contexts c.self.inside.families c.self.inside.processors c.self.inside.tasks c.self.inside.used c.self.inside.mapped c.self.inside.next_id in
    other-slot c.self.inside.pmus old c.args.key e c.self.invariant.kept (subst (λ w. is_live w c.args.key ≡ true) (sym c.self.view_is) c.requires.live) unused
    (same ∙ ap (λ (i : Instance). i.event.0) c.instance.ensures))
    c.self.invariant.clear)
