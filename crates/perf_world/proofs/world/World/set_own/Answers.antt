use Rattle.std.proofs.Common.{◌≡◌, ◌≤◌, true, refl, ap, subst, sym, ◌∙◌}
use Rattle.perf_base.specs.declared.numbers.Key.{Key}
use Rattle.world_spec.{specs.{StageOf.{stage_of}, Value.{World, is_live, entry_at, times}, Ways.{IsTurned}}, proofs.Keeping.{own-kept, own-stage}}
use Rattle.world_spec.proofs.{Tables.{keys-written}, Ways.{own-ways, outside-group}}
use Rattle.world_spec.specs.Changes as change
use Rattle.world_tables.specs.Columns.{Columns, way_in}
use Rattle.perf_world.{specs.Seen.{seen, IsWorld}, proofs.Kept.{kept-now}}
use Rattle.perf_world.proofs.Turning.{stored-after, settled-turned, written-part, group-led}
use Rattle.perf_world.proofs.world.World.set_own.Goals as goal
use Rattle.world_spec.proofs.WaysGone.{leader-live}

pub leader-leader-requires : goal.leader-leader-requires
leader-leader-requires c =
    ap (λ (w : World). is_live w c.args.key) (ap (λ t. seen c.self.inside.pmus t c.self.inside.contexts c.self.inside.families c.self.inside.processors c.self.inside.tasks c.self.inside.used c.self.inside.mapped c.self.inside.next_id) c.set_own.ensures ∙ ap (change.set_own c.args.key c.args.own) c.self.view_is) ∙ (keys-written c.args.self.now.entries c.args.key.0 _ c.requires.live c.args.key.0 ∙ c.requires.live)

pub settle_group-requires-clause-cpus : goal.settle_group-requires-clause-cpus
settle_group-requires-clause-cpus c = c.cpus-cpus.ensures.number ∙ sym c.self.invariant.kept.shape.running

pub settle_group-requires-clause-once : goal.settle_group-requires-clause-once
settle_group-requires-clause-once c = c.self.invariant.kept.running.once

pub settle_group-requires-clause-there : goal.settle_group-requires-clause-there
settle_group-requires-clause-there c =
    let now : World = c.args.self.now in
    let after : World = change.set_own c.args.key c.args.own now in
    let is : seen c.self.inside.pmus c.set_own.new.self c.self.inside.contexts c.self.inside.families c.self.inside.processors c.self.inside.tasks c.self.inside.used c.self.inside.mapped c.self.inside.next_id ≡ after = (ap (λ t. seen c.self.inside.pmus t c.self.inside.contexts c.self.inside.families c.self.inside.processors c.self.inside.tasks c.self.inside.used c.self.inside.mapped c.self.inside.next_id) c.set_own.ensures ∙ ap (change.set_own c.args.key c.args.own) c.self.view_is) in
    let kept : IsWorld after = own-kept now.hardware now c.args.key c.args.own c.requires.live c.requires.leader (kept-now (seen c.self.inside.pmus c.self.inside.events c.self.inside.contexts c.self.inside.families c.self.inside.processors c.self.inside.tasks c.self.inside.used c.self.inside.mapped c.self.inside.next_id) c.args.self.now c.self.view_is c.self.invariant.kept) in
    let live : is_live after c.args.key ≡ true = keys-written now.entries c.args.key.0 _ c.requires.live c.args.key.0 ∙ c.requires.live in
    ap (λ (q : Key). is_live (seen c.self.inside.pmus c.set_own.new.self c.self.inside.contexts c.self.inside.families c.self.inside.processors c.self.inside.tasks c.self.inside.used c.self.inside.mapped c.self.inside.next_id) q) c.leader-leader.ensures
    ∙ (ap (λ (w : World). is_live w (entry_at w c.args.key).leader) is ∙ leader-live after.hardware after c.args.key kept live)

pub settle_group-requires-clause-led : goal.settle_group-requires-clause-led
settle_group-requires-clause-led c =
    let now : World = c.args.self.now in
    let after : World = change.set_own c.args.key c.args.own now in
    let is : seen c.self.inside.pmus c.set_own.new.self c.self.inside.contexts c.self.inside.families c.self.inside.processors c.self.inside.tasks c.self.inside.used c.self.inside.mapped c.self.inside.next_id ≡ after = (ap (λ t. seen c.self.inside.pmus t c.self.inside.contexts c.self.inside.families c.self.inside.processors c.self.inside.tasks c.self.inside.used c.self.inside.mapped c.self.inside.next_id) c.set_own.ensures ∙ ap (change.set_own c.args.key c.args.own) c.self.view_is) in
    let kept : IsWorld after = own-kept now.hardware now c.args.key c.args.own c.requires.live c.requires.leader (kept-now (seen c.self.inside.pmus c.self.inside.events c.self.inside.contexts c.self.inside.families c.self.inside.processors c.self.inside.tasks c.self.inside.used c.self.inside.mapped c.self.inside.next_id) c.args.self.now c.self.view_is c.self.invariant.kept) in
    subst (λ (w : World). (k : Key) → 1 ≤ times k (entry_at w c.leader-leader.result).members → (is_live w k ≡ true) × (is_live w (entry_at w k).leader ≡ true)) (sym is)
    (group-led after.hardware after c.leader-leader.result kept)

pub invariant_of-self : goal.invariant_of-self
invariant_of-self c =
    let now : World = c.args.self.now in
    let mid : Columns = c.set_own.new.self in
    let new : Columns = c.settle_group.new.events in
    let after : World = change.set_own c.args.key c.args.own now in
    let is : seen c.self.inside.pmus c.set_own.new.self c.self.inside.contexts c.self.inside.families c.self.inside.processors c.self.inside.tasks c.self.inside.used c.self.inside.mapped c.self.inside.next_id ≡ after = (ap (λ t. seen c.self.inside.pmus t c.self.inside.contexts c.self.inside.families c.self.inside.processors c.self.inside.tasks c.self.inside.used c.self.inside.mapped c.self.inside.next_id) c.set_own.ensures ∙ ap (change.set_own c.args.key c.args.own) c.self.view_is) in
    let known : IsWorld now = (kept-now (seen c.self.inside.pmus c.self.inside.events c.self.inside.contexts c.self.inside.families c.self.inside.processors c.self.inside.tasks c.self.inside.used c.self.inside.mapped c.self.inside.next_id) c.args.self.now c.self.view_is c.self.invariant.kept) in
    let kept : IsWorld after = own-kept now.hardware now c.args.key c.args.own c.requires.live c.requires.leader known in
    let leader : c.leader-leader.result ≡ (entry_at now c.args.key).leader =
    c.leader-leader.ensures ∙ (ap (λ (w : World). (entry_at w c.args.key).leader) is ∙ written-part (λ e. e.leader) now c.args.key _ refl c.args.key) in
    stored-after new _ after (ap (λ t. seen c.self.inside.pmus t c.self.inside.contexts c.self.inside.families c.self.inside.processors c.self.inside.tasks c.self.inside.used c.self.inside.mapped c.self.inside.next_id) c.settle_group.ensures.same ∙ is) kept
    (settled-turned c.self.inside.processors _ c.self.inside.events mid new (seen c.self.inside.pmus c.self.inside.events c.self.inside.contexts c.self.inside.families c.self.inside.processors c.self.inside.tasks c.self.inside.used c.self.inside.mapped c.self.inside.next_id) now after c.self.view_is c.self.invariant.turned c.settle_group.ensures
    (λ u k h. subst (λ (w : World). IsTurned w u k) is (record { ready = h.ready; on = h.on }))
    (λ k live none.
    let was : is_live now k ≡ true = sym (keys-written now.entries c.args.key.0 _ c.requires.live k.0) ∙ live in
    let apart = outside-group now.hardware now c.leader-leader.result k known was
    (ap (times k) (sym (written-part (λ e. e.members) now c.args.key _ refl c.leader-leader.result)) ∙ (ap (λ (w : World). times k (entry_at w c.leader-leader.result).members) (sym is) ∙ none)) in
    record {
      live = was;
      keeps = own-ways now.hardware now c.args.key c.args.own k known was (λ e. apart (e ∙ ap (λ q. q.0) (sym leader)));
      same = ap (λ t. way_in t k) c.set_own.ensures;
    })) c.self.invariant.clear

pub returns-clause-stage : goal.returns-clause-stage
returns-clause-stage c =
    ap stage_of (ap (λ t. seen c.self.inside.pmus t c.self.inside.contexts c.self.inside.families c.self.inside.processors c.self.inside.tasks c.self.inside.used c.self.inside.mapped c.self.inside.next_id) c.settle_group.ensures.same ∙ (ap (λ t. seen c.self.inside.pmus t c.self.inside.contexts c.self.inside.families c.self.inside.processors c.self.inside.tasks c.self.inside.used c.self.inside.mapped c.self.inside.next_id) c.set_own.ensures ∙ ap (change.set_own c.args.key c.args.own) c.self.view_is))
    ∙ own-stage c.args.self.now.hardware c.args.self.now c.args.key c.args.own (kept-now (seen c.self.inside.pmus c.self.inside.events c.self.inside.contexts c.self.inside.families c.self.inside.processors c.self.inside.tasks c.self.inside.used c.self.inside.mapped c.self.inside.next_id) c.args.self.now c.self.view_is c.self.invariant.kept) c.requires.live

pub returns-clause-world : goal.returns-clause-world
returns-clause-world c = ap (λ t. seen c.self.inside.pmus t c.self.inside.contexts c.self.inside.families c.self.inside.processors c.self.inside.tasks c.self.inside.used c.self.inside.mapped c.self.inside.next_id) c.settle_group.ensures.same ∙ (ap (λ t. seen c.self.inside.pmus t c.self.inside.contexts c.self.inside.families c.self.inside.processors c.self.inside.tasks c.self.inside.used c.self.inside.mapped c.self.inside.next_id) c.set_own.ensures ∙ ap (change.set_own c.args.key c.args.own) c.self.view_is)
