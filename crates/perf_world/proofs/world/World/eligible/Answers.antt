use Rattle.std.{proofs.Common.{◌≡◌, ◌≤◌, ◌∙◌, true, List, ap, subst, sym, slice_index_or}, specs.List.{list_all}}
use Rattle.perf_base.specs.declared.numbers.Key.{Key}
use Rattle.stage_spec.specs.{Effective.{is_ready}, Hardware.{is_counted_on}, Places.{may_count_on}, Verdict.{is_eligible}}
use Rattle.world_spec.specs.{StageOf.{group_at}, Value.{World, times, instance_at}, Kept.{leads, post_at}}
use Rattle.perf_world.{specs.Seen.{seen}, proofs.Gone.{member-live, eligible-by}}
use Rattle.perf_world.proofs.world.World.eligible.Goals as goal
use Rattle.world_spec.proofs.Copies.{times-at}

pub are_counted_on-requires-clause-there : goal.are_counted_on-requires-clause-there
are_counted_on-requires-clause-there c i d low =
    let k : Key = slice_index_or c.members.result.now i d in
    member-live c.self.inside.pmus (seen c.self.inside.pmus c.self.inside.events c.self.inside.contexts c.self.inside.families c.self.inside.processors c.self.inside.tasks c.self.inside.used c.self.inside.mapped c.self.inside.next_id) c.self.invariant.kept c.args.leader k (subst (λ (keys : List Key). 1 ≤ times k keys) c.members.ensures (times-at c.members.result.now i d low))

pub returns : goal.returns
returns c =
    let lead : leads (post_at (seen c.self.inside.pmus c.self.inside.events c.self.inside.contexts c.self.inside.families c.self.inside.processors c.self.inside.tasks c.self.inside.used c.self.inside.mapped c.self.inside.next_id)) c.args.leader ≡ true = subst (λ (w : World). leads (post_at w) c.args.leader ≡ true) (sym c.self.view_is) c.requires.leads in
    let ready : is_ready (instance_at (seen c.self.inside.pmus c.self.inside.events c.self.inside.contexts c.self.inside.families c.self.inside.processors c.self.inside.tasks c.self.inside.used c.self.inside.mapped c.self.inside.next_id) c.args.leader).own ≡ true = ap (λ i. is_ready i.own) (sym c.instance-instance.ensures) ∙ (sym c.is_ready.ensures ∙ c.if-not-is_ready.false) in
    let place : may_count_on c.args.cpu (instance_at (seen c.self.inside.pmus c.self.inside.events c.self.inside.contexts c.self.inside.families c.self.inside.processors c.self.inside.tasks c.self.inside.used c.self.inside.mapped c.self.inside.next_id) c.args.leader).attr.cpu ≡ true =
    ap (λ i. may_count_on c.args.cpu i.attr.cpu) (sym c.instance-instance.ensures) ∙ (sym c.may_count_on.ensures ∙ c.if-not-may_count_on.false) in
    c.are_counted_on.ensures
    ∙ (ap (list_all (λ k. is_counted_on c.self.inside.pmus c.args.cpu (instance_at (seen c.self.inside.pmus c.self.inside.events c.self.inside.contexts c.self.inside.families c.self.inside.processors c.self.inside.tasks c.self.inside.used c.self.inside.mapped c.self.inside.next_id) k).attr.kind)) c.members.ensures
    ∙ (sym (eligible-by c.self.inside.pmus c.args.cpu (seen c.self.inside.pmus c.self.inside.events c.self.inside.contexts c.self.inside.families c.self.inside.processors c.self.inside.tasks c.self.inside.used c.self.inside.mapped c.self.inside.next_id) c.self.invariant.kept c.args.leader lead ready place)
    ∙ ap (λ (w : World). is_eligible w.hardware c.args.cpu (group_at w c.args.leader)) c.self.view_is))
