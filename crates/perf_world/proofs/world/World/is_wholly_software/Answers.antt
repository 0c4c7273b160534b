use Rattle.std.{proofs.Common.{◌≡◌, ◌∙◌, ◌≤◌, true, List, ap, subst, sym, slice_index_or}, specs.List.{list_all}}
use Rattle.perf_base.specs.declared.numbers.Key.{Key}
use Rattle.stage_spec.specs.{Effective.{is_wholly_software}, Hardware.{is_software}}
use Rattle.world_spec.specs.{Kept.{leads, post_at}, StageOf.{group_at}, Value.{World, times, instance_at}}
use Rattle.perf_world.{specs.Seen.{seen}, proofs.Gone.{member-live, all-members}}
use Rattle.perf_world.proofs.world.World.is_wholly_software.Goals as goal
use Rattle.world_spec.proofs.Copies.{times-at}

pub are_software-requires : goal.are_software-requires
are_software-requires c i d low =
    let k : Key = slice_index_or c.members.result.now i d in
    member-live c.self.inside.pmus (seen c.self.inside.pmus c.self.inside.events c.self.inside.contexts c.self.inside.families c.self.inside.processors c.self.inside.tasks c.self.inside.used c.self.inside.mapped c.self.inside.next_id) c.self.invariant.kept c.args.leader k (subst (λ (keys : List Key). 1 ≤ times k keys) c.members.ensures (times-at c.members.result.now i d low))

pub returns : goal.returns
returns c =
    let lead : leads (post_at (seen c.self.inside.pmus c.self.inside.events c.self.inside.contexts c.self.inside.families c.self.inside.processors c.self.inside.tasks c.self.inside.used c.self.inside.mapped c.self.inside.next_id)) c.args.leader ≡ true = subst (λ (w : World). leads (post_at w) c.args.leader ≡ true) (sym c.self.view_is) c.requires in
    c.are_software.ensures
    ∙ (ap (list_all (λ k. is_software (instance_at (seen c.self.inside.pmus c.self.inside.events c.self.inside.contexts c.self.inside.families c.self.inside.processors c.self.inside.tasks c.self.inside.used c.self.inside.mapped c.self.inside.next_id) k).attr.kind)) c.members.ensures
    ∙ (sym (all-members (λ i. is_software i.attr.kind) c.self.inside.pmus (seen c.self.inside.pmus c.self.inside.events c.self.inside.contexts c.self.inside.families c.self.inside.processors c.self.inside.tasks c.self.inside.used c.self.inside.mapped c.self.inside.next_id) c.self.invariant.kept c.args.leader lead)
    ∙ ap (λ (w : World). is_wholly_software (group_at w c.args.leader)) c.self.view_is))
