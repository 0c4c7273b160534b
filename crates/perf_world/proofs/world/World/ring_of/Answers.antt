use Rattle.std.{proofs.Common.{◌∙◌, ap, sym}, specs.Prelude.{option_map}}
use Rattle.stage_spec.specs.Mapping.{ring_of_instance}
use Rattle.world_spec.{specs.Value.{World, instance_at}, proofs.Families.{original-is}}
use Rattle.perf_world.{specs.Seen.{seen}, proofs.Kept.{kept-now}}
use Rattle.perf_world.proofs.world.World.ring_of.Goals as goal

pub returns : goal.returns
returns c =
    ap (λ i. i.ring) (c.instance.ensures ∙ ap (λ (w : World). instance_at w c.origin-origin.result) c.self.view_is)
    ∙ sym (ap ring_of_instance (original-is c.args.self.now.hardware c.args.self.now (instance_at c.args.self.now c.args.key).event (kept-now (seen c.self.inside.pmus c.self.inside.events c.self.inside.contexts c.self.inside.families c.self.inside.processors c.self.inside.tasks c.self.inside.used c.self.inside.mapped c.self.inside.next_id) c.args.self.now c.self.view_is c.self.invariant.kept)
    ∙ ap (option_map (instance_at c.args.self.now)) c.origin-origin.ensures.origin))
