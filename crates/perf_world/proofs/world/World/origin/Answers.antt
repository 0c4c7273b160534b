use Rattle.std.proofs.Common.{◌≡◌, ◌∙◌, ap, sym, Some, None, slice_index_or}
use Rattle.world_spec.specs.Value.{World, family_of, instance_at, no_family}
use Rattle.perf_world.{specs.Seen.{seen}, proofs.Kept.{kept-now, original-live, original-there}}
use Rattle.perf_world.proofs.world.World.origin.Goals as goal

pub unreachable-requires : goal.unreachable-requires
unreachable-requires c =
    let there = original-there c.args.self.now.hardware c.args.self.now c.args.key (kept-now (seen c.self.inside.pmus c.self.inside.events c.self.inside.contexts c.self.inside.families c.self.inside.processors c.self.inside.tasks c.self.inside.used c.self.inside.mapped c.self.inside.next_id) c.args.self.now c.self.view_is c.self.invariant.kept) c.requires in
    let bad : Some there.0 ≡ None = sym there.1 ∙ (sym (c.original.ensures ∙ (ap (λ x. (slice_index_or c.self.inside.families.families x.event.0 no_family).original) c.instance.ensures ∙ ap (λ (w : World). (family_of w (instance_at w c.args.key).event).original) c.self.view_is)) ∙ c.in-None.is) in
    cc bad

pub returns-clause-live : goal.returns-clause-live
returns-clause-live c =
    original-live c.args.self.now.hardware c.args.self.now (instance_at c.args.self.now c.args.key).event.0 c.in-Some.origin (kept-now (seen c.self.inside.pmus c.self.inside.events c.self.inside.contexts c.self.inside.families c.self.inside.processors c.self.inside.tasks c.self.inside.used c.self.inside.mapped c.self.inside.next_id) c.args.self.now c.self.view_is c.self.invariant.kept) (sym (c.original.ensures ∙ (ap (λ x. (slice_index_or c.self.inside.families.families x.event.0 no_family).original) c.instance.ensures ∙ ap (λ (w : World). (family_of w (instance_at w c.args.key).event).original) c.self.view_is)) ∙ c.in-Some.is)
