use Rattle.std.{proofs.Common.{◌≡◌, true, ap, sym, ◌∙◌}, specs.Prelude.{option_map}}
use Rattle.world_spec.{specs.Value.{family_of, instance_at, is_live}, proofs.Families.{original-is}}
use Rattle.perf_world.{proofs.Kept.{original-live, if-some, kept-now}, specs.Seen.{seen}}
use Rattle.perf_world.proofs.world.World.key_of.Goals as goal

pub returns-clause-live : goal.returns-clause-live
returns-clause-live c =
    if-some c.original.result (λ k. is_live c.args.self.now k ≡ true) (λ k is. original-live c.args.self.now.hardware c.args.self.now c.args.event.0 k (kept-now (seen c.self.inside.pmus c.self.inside.events c.self.inside.contexts c.self.inside.families c.self.inside.processors c.self.inside.tasks c.self.inside.used c.self.inside.mapped c.self.inside.next_id) c.args.self.now c.self.view_is c.self.invariant.kept) (sym (c.original.ensures ∙ ap (λ w. (family_of w c.args.event).original) c.self.view_is) ∙ is))

pub returns-clause-original : goal.returns-clause-original
returns-clause-original c =
    original-is c.args.self.now.hardware c.args.self.now c.args.event (kept-now (seen c.self.inside.pmus c.self.inside.events c.self.inside.contexts c.self.inside.families c.self.inside.processors c.self.inside.tasks c.self.inside.used c.self.inside.mapped c.self.inside.next_id) c.args.self.now c.self.view_is c.self.invariant.kept) ∙ ap (option_map (instance_at c.args.self.now)) (sym (c.original.ensures ∙ ap (λ w. (family_of w c.args.event).original) c.self.view_is))
