use Rattle.std.proofs.Common.{◌≡◌, ◌≤◌, true, ap, subst, sym, ◌∙◌}
use Rattle.perf_base.specs.declared.numbers.Key.{Key}
use Rattle.world_spec.specs.{StageOf.{stage_of}, Value.{World, is_live, entry_at, times}, Ways.{IsTurned}}
use Rattle.world_spec.proofs.{Keeping.{standing-kept, standing-stage}, Ways.{standing-ways, outside-group}}
use Rattle.world_spec.specs.Changes as change
use Rattle.world_tables.specs.Columns.{Columns, way_in}
use Rattle.perf_world.{specs.Seen.{seen, IsWorld}, proofs.{Kept.{kept-now}, Turning.{stored-after, settled-turned, group-led}}}
use Rattle.perf_world.proofs.world.World.set_standing.Goals as goal

pub settle_group-requires-clause-cpus : goal.settle_group-requires-clause-cpus
settle_group-requires-clause-cpus c = c.cpus-cpus.ensures.number ∙ sym c.self.invariant.kept.shape.running

pub settle_group-requires-clause-once : goal.settle_group-requires-clause-once
settle_group-requires-clause-once c = c.self.invariant.kept.running.once

pub settle_group-requires-clause-there : goal.settle_group-requires-clause-there
settle_group-requires-clause-there c =
    let after : World = change.set_standing c.args.leader c.args.standing c.args.self.now in
    let is : seen c.self.inside.pmus c.set_standing.new.self c.self.inside.contexts c.self.inside.families c.self.inside.processors c.self.inside.tasks c.self.inside.used c.self.inside.mapped c.self.inside.next_id ≡ after = (ap (λ t. seen c.self.inside.pmus t c.self.inside.contexts c.self.inside.families c.self.inside.processors c.self.inside.tasks c.self.inside.used c.self.inside.mapped c.self.inside.next_id) c.set_standing.ensures ∙ ap (change.set_standing c.args.leader c.args.standing) c.self.view_is) in
    ap (λ (w : World). is_live w c.args.leader) is ∙ c.requires

pub settle_group-requires-clause-led : goal.settle_group-requires-clause-led
settle_group-requires-clause-led c =
    let now : World = c.args.self.now in
    let after : World = change.set_standing c.args.leader c.args.standing now in
    let is : seen c.self.inside.pmus c.set_standing.new.self c.self.inside.contexts c.self.inside.families c.self.inside.processors c.self.inside.tasks c.self.inside.used c.self.inside.mapped c.self.inside.next_id ≡ after = (ap (λ t. seen c.self.inside.pmus t c.self.inside.contexts c.self.inside.families c.self.inside.processors c.self.inside.tasks c.self.inside.used c.self.inside.mapped c.self.inside.next_id) c.set_standing.ensures ∙ ap (change.set_standing c.args.leader c.args.standing) c.self.view_is) in
    let kept : IsWorld after = standing-kept now.hardware now c.args.leader c.args.standing c.requires (kept-now (seen c.self.inside.pmus c.self.inside.events c.self.inside.contexts c.self.inside.families c.self.inside.processors c.self.inside.tasks c.self.inside.used c.self.inside.mapped c.self.inside.next_id) c.args.self.now c.self.view_is c.self.invariant.kept) in
    subst (λ (w : World). (k : Key) → 1 ≤ times k (entry_at w c.args.leader).members → (is_live w k ≡ true) × (is_live w (entry_at w k).leader ≡ true)) (sym is)
    (group-led after.hardware after c.args.leader kept)

pub invariant_of-self : goal.invariant_of-self
invariant_of-self c =
    let now : World = c.args.self.now in
    let mid : Columns = c.set_standing.new.self in
    let new : Columns = c.settle_group.new.events in
    let after : World = change.set_standing c.args.leader c.args.standing now in
    let is : seen c.self.inside.pmus c.set_standing.new.self c.self.inside.contexts c.self.inside.families c.self.inside.processors c.self.inside.tasks c.self.inside.used c.self.inside.mapped c.self.inside.next_id ≡ after = (ap (λ t. seen c.self.inside.pmus t c.self.inside.contexts c.self.inside.families c.self.inside.processors c.self.inside.tasks c.self.inside.used c.self.inside.mapped c.self.inside.next_id) c.set_standing.ensures ∙ ap (change.set_standing c.args.leader c.args.standing) c.self.view_is) in
    let known : IsWorld now = (kept-now (seen c.self.inside.pmus c.self.inside.events c.self.inside.contexts c.self.inside.families c.self.inside.processors c.self.inside.tasks c.self.inside.used c.self.inside.mapped c.self.inside.next_id) c.args.self.now c.self.view_is c.self.invariant.kept) in
    let kept : IsWorld after = standing-kept now.hardware now c.args.leader c.args.standing c.requires known in
    stored-after new _ after (ap (λ t. seen c.self.inside.pmus t c.self.inside.contexts c.self.inside.families c.self.inside.processors c.self.inside.tasks c.self.inside.used c.self.inside.mapped c.self.inside.next_id) c.settle_group.ensures.same ∙ is) kept
    (settled-turned c.self.inside.processors _ c.self.inside.events mid new (seen c.self.inside.pmus c.self.inside.events c.self.inside.contexts c.self.inside.families c.self.inside.processors c.self.inside.tasks c.self.inside.used c.self.inside.mapped c.self.inside.next_id) now after c.self.view_is c.self.invariant.turned c.settle_group.ensures
    (λ u k h. subst (λ (w : World). IsTurned w u k) is (record { ready = h.ready; on = h.on }))
    (λ k live none. record {
      live = live;
      keeps = standing-ways now c.args.leader c.args.standing k (outside-group now.hardware now c.args.leader k known live
          (ap (λ (w : World). times k (entry_at w c.args.leader).members) (sym is) ∙ none));
      same = ap (λ t. way_in t k) c.set_standing.ensures;
    })) c.self.invariant.clear

pub returns-clause-stage : goal.returns-clause-stage
returns-clause-stage c =
    ap stage_of (ap (λ t. seen c.self.inside.pmus t c.self.inside.contexts c.self.inside.families c.self.inside.processors c.self.inside.tasks c.self.inside.used c.self.inside.mapped c.self.inside.next_id) c.settle_group.ensures.same ∙ (ap (λ t. seen c.self.inside.pmus t c.self.inside.contexts c.self.inside.families c.self.inside.processors c.self.inside.tasks c.self.inside.used c.self.inside.mapped c.self.inside.next_id) c.set_standing.ensures ∙ ap (change.set_standing c.args.leader c.args.standing) c.self.view_is))
    ∙ standing-stage c.args.self.now c.args.leader c.args.standing

pub returns-clause-world : goal.returns-clause-world
returns-clause-world c = ap (λ t. seen c.self.inside.pmus t c.self.inside.contexts c.self.inside.families c.self.inside.processors c.self.inside.tasks c.self.inside.used c.self.inside.mapped c.self.inside.next_id) c.settle_group.ensures.same ∙ (ap (λ t. seen c.self.inside.pmus t c.self.inside.contexts c.self.inside.families c.self.inside.processors c.self.inside.tasks c.self.inside.used c.self.inside.mapped c.self.inside.next_id) c.set_standing.ensures ∙ ap (change.set_standing c.args.leader c.args.standing) c.self.view_is)
