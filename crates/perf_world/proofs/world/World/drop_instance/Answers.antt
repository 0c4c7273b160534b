use Rattle.std.proofs.Common.{◌≡◌, true, ap, sym, subst, ◌∙◌, slice_index_or, List, ◌≤◌}
use Rattle.world_spec.specs.{Value.{no_family, is_live, instance_at, is_key, times, World, entry_at}, StageOf.{stage_of, after_first}}
use Rattle.world_spec.{specs.{Adding.{drop_instance, out_of_family}, Ways.{IsTurned}}, proofs.{Dropping.{go-kept, go-stage}, WaysGone.{go-ways, leader-live}}}
use Rattle.world_tables.specs.{Columns.{Columns, is_there, entry_in, taken, way_in}, Places.{Slots, with_family}}
use Rattle.perf_world.{specs.Seen.{seen, IsWorld}, proofs.Gone.{gone, left-there, members-there, copy-once, both-true, dropped-kept, leader-there}}
use Rattle.perf_world.proofs.{Kept.{kept-now, listed-once}, Room.{room-behind}, TurnedGone.{gone-there, gone-self, gone-ways, not-led}}
use Rattle.perf_world.proofs.Turning.{stored-after, settled-turned, sibling-apart}
use Rattle.perf_world.proofs.Clear.{clear-family}
use Rattle.perf_world.proofs.world.World.drop_instance.Goals as goal
use Rattle.perf_base.specs.declared.numbers.Key.{Key}

pub leave_group-requires-clause-siblings : goal.leave_group-requires-clause-siblings
leave_group-requires-clause-siblings c k there = members-there c.self.inside.pmus (seen c.self.inside.pmus c.self.inside.events c.self.inside.contexts c.self.inside.families c.self.inside.processors c.self.inside.tasks c.self.inside.used c.self.inside.mapped c.self.inside.next_id) c.self.invariant.kept c.args.key k there

pub leave_group-requires-clause-listed : goal.leave_group-requires-clause-listed
leave_group-requires-clause-listed c leading =
    let live : is_live (seen c.self.inside.pmus c.self.inside.events c.self.inside.contexts c.self.inside.families c.self.inside.processors c.self.inside.tasks c.self.inside.used c.self.inside.mapped c.self.inside.next_id) c.args.key ≡ true = subst (λ w. is_live w c.args.key ≡ true) (sym c.self.view_is) c.requires.live in
    listed-once c.self.inside.pmus (seen c.self.inside.pmus c.self.inside.events c.self.inside.contexts c.self.inside.families c.self.inside.processors c.self.inside.tasks c.self.inside.used c.self.inside.mapped c.self.inside.next_id) c.args.key c.self.invariant.kept (both-true (is_live (seen c.self.inside.pmus c.self.inside.events c.self.inside.contexts c.self.inside.families c.self.inside.processors c.self.inside.tasks c.self.inside.used c.self.inside.mapped c.self.inside.next_id) c.args.key) (is_key c.args.key (entry_in c.self.inside.events c.args.key).leader) live leading)

pub leave_group-requires-clause-room : goal.leave_group-requires-clause-room
leave_group-requires-clause-room c leading =
    let live : is_live (seen c.self.inside.pmus c.self.inside.events c.self.inside.contexts c.self.inside.families c.self.inside.processors c.self.inside.tasks c.self.inside.used c.self.inside.mapped c.self.inside.next_id) c.args.key ≡ true = subst (λ w. is_live w c.args.key ≡ true) (sym c.self.view_is) c.requires.live in
    room-behind c.self.inside.pmus (seen c.self.inside.pmus c.self.inside.events c.self.inside.contexts c.self.inside.families c.self.inside.processors c.self.inside.tasks c.self.inside.used c.self.inside.mapped c.self.inside.next_id) c.self.invariant.kept c.args.key (both-true (is_live (seen c.self.inside.pmus c.self.inside.events c.self.inside.contexts c.self.inside.families c.self.inside.processors c.self.inside.tasks c.self.inside.used c.self.inside.mapped c.self.inside.next_id) c.args.key) (is_key c.args.key (entry_in c.self.inside.events c.args.key).leader) live leading)

pub remove-requires : goal.remove-requires
remove-requires c =
    let live : is_live (seen c.self.inside.pmus c.self.inside.events c.self.inside.contexts c.self.inside.families c.self.inside.processors c.self.inside.tasks c.self.inside.used c.self.inside.mapped c.self.inside.next_id) c.args.key ≡ true = subst (λ w. is_live w c.args.key ≡ true) (sym c.self.view_is) c.requires.live in
    ap (λ (t : Columns). is_there t c.args.key) c.leave_group.ensures.events
    ∙ (left-there c.args.key (is_key c.args.key (entry_in c.self.inside.events c.args.key).leader) c.self.inside.events (leader-there c.self.inside.pmus (seen c.self.inside.pmus c.self.inside.events c.self.inside.contexts c.self.inside.families c.self.inside.processors c.self.inside.tasks c.self.inside.used c.self.inside.mapped c.self.inside.next_id) c.self.invariant.kept c.args.key live)
    (λ q there. members-there c.self.inside.pmus (seen c.self.inside.pmus c.self.inside.events c.self.inside.contexts c.self.inside.families c.self.inside.processors c.self.inside.tasks c.self.inside.used c.self.inside.mapped c.self.inside.next_id) c.self.invariant.kept c.args.key q there) c.args.key
    ∙ live)

pub leave_family-requires-clause-there : goal.leave_family-requires-clause-there
leave_family-requires-clause-there c copied =
    let live : is_live (seen c.self.inside.pmus c.self.inside.events c.self.inside.contexts c.self.inside.families c.self.inside.processors c.self.inside.tasks c.self.inside.used c.self.inside.mapped c.self.inside.next_id) c.args.key ≡ true = subst (λ w. is_live w c.args.key ≡ true) (sym c.self.view_is) c.requires.live in
    let copy : (instance_at (seen c.self.inside.pmus c.self.inside.events c.self.inside.contexts c.self.inside.families c.self.inside.processors c.self.inside.tasks c.self.inside.used c.self.inside.mapped c.self.inside.next_id) c.args.key).copy ≡ true = sym (ap (λ x. x.copy) c.instance-instance.ensures) ∙ copied in
    ap (λ x. times c.args.key (slice_index_or c.self.inside.families.families x.event.0 no_family).copies) c.instance-instance.ensures
    ∙ copy-once c.self.inside.pmus (seen c.self.inside.pmus c.self.inside.events c.self.inside.contexts c.self.inside.families c.self.inside.processors c.self.inside.tasks c.self.inside.used c.self.inside.mapped c.self.inside.next_id) c.self.invariant.kept c.args.key live copy

pub settle_each-requires-clause-cpus : goal.settle_each-requires-clause-cpus
settle_each-requires-clause-cpus c = c.cpus-cpus.ensures.number ∙ sym c.self.invariant.kept.shape.running

pub settle_each-requires-clause-once : goal.settle_each-requires-clause-once
settle_each-requires-clause-once c = c.self.invariant.kept.running.once

pub settle_each-requires-clause-led : goal.settle_each-requires-clause-led
settle_each-requires-clause-led c k some =
    let after : World = (drop_instance c.args.key c.args.self.now) in
    let is : seen c.self.inside.pmus c.remove.new.self c.leave_group.new.contexts c.leave_family.new.families c.self.inside.processors c.self.inside.tasks c.self.inside.used c.self.inside.mapped c.self.inside.next_id ≡ after = ((λ i. seen c.self.inside.pmus ((c.remove.ensures ∙ ap (taken c.args.key) c.leave_group.ensures.events) i) (c.leave_group.ensures.contexts i) ((c.leave_family.ensures ∙ ap (λ x. with_family x.event.0 (out_of_family x.copy c.args.key) c.self.inside.families) c.instance-instance.ensures) i) c.self.inside.processors c.self.inside.tasks c.self.inside.used c.self.inside.mapped c.self.inside.next_id) ∙ (gone c.self.inside.pmus c.self.inside.contexts c.self.inside.families c.self.inside.processors c.self.inside.tasks c.self.inside.used c.self.inside.mapped c.self.inside.next_id c.args.key c.self.inside.events ∙ ap (drop_instance c.args.key) c.self.view_is)) in
    let kept : IsWorld after = (dropped-kept c.args.key c.args.self.now (go-kept c.args.self.now.hardware c.args.self.now c.args.key c.requires (kept-now (seen c.self.inside.pmus c.self.inside.events c.self.inside.contexts c.self.inside.families c.self.inside.processors c.self.inside.tasks c.self.inside.used c.self.inside.mapped c.self.inside.next_id) c.args.self.now c.self.view_is c.self.invariant.kept))) in
    let old : World = (seen c.self.inside.pmus c.self.inside.events c.self.inside.contexts c.self.inside.families c.self.inside.processors c.self.inside.tasks c.self.inside.used c.self.inside.mapped c.self.inside.next_id) in
    let live : is_live old c.args.key ≡ true = subst (λ w. is_live w c.args.key ≡ true) (sym c.self.view_is) c.requires.live in
    let among : 1 ≤ times k (after_first (entry_at old c.args.key).members) = subst (λ (keys : List Key). 1 ≤ times k keys) (c.as_slice.ensures ∙ c.siblings-siblings.ensures) some in
    let apart : k.0 ≡ c.args.key.0 → ⊥ = sibling-apart c.self.inside.pmus old c.args.key k c.self.invariant.kept among in
    let there : is_there c.remove.new.self k ≡ true =
    ap (λ (t : Columns). is_there t k) c.remove.ensures
    ∙ (gone-there c.args.key c.leave_group.new.events k apart
    ∙ (ap (λ (t : Columns). is_there t k) c.leave_group.ensures.events
    ∙ (left-there c.args.key (is_key c.args.key (entry_in c.self.inside.events c.args.key).leader) c.self.inside.events (leader-there c.self.inside.pmus old c.self.invariant.kept c.args.key live)
    (λ q there. members-there c.self.inside.pmus old c.self.invariant.kept c.args.key q there) k
    ∙ members-there c.self.inside.pmus old c.self.invariant.kept c.args.key k among))) in
    (there, ap (λ (w : World). is_live w (entry_at w k).leader) is ∙ leader-live after.hardware after k kept (ap (λ (w : World). is_live w k) (sym is) ∙ there))

pub invariant_of-self : goal.invariant_of-self
invariant_of-self c =
    let now : World = c.args.self.now in
    let after : World = (drop_instance c.args.key c.args.self.now) in
    let is : seen c.self.inside.pmus c.remove.new.self c.leave_group.new.contexts c.leave_family.new.families c.self.inside.processors c.self.inside.tasks c.self.inside.used c.self.inside.mapped c.self.inside.next_id ≡ after = ((λ i. seen c.self.inside.pmus ((c.remove.ensures ∙ ap (taken c.args.key) c.leave_group.ensures.events) i) (c.leave_group.ensures.contexts i) ((c.leave_family.ensures ∙ ap (λ x. with_family x.event.0 (out_of_family x.copy c.args.key) c.self.inside.families) c.instance-instance.ensures) i) c.self.inside.processors c.self.inside.tasks c.self.inside.used c.self.inside.mapped c.self.inside.next_id) ∙ (gone c.self.inside.pmus c.self.inside.contexts c.self.inside.families c.self.inside.processors c.self.inside.tasks c.self.inside.used c.self.inside.mapped c.self.inside.next_id c.args.key c.self.inside.events ∙ ap (drop_instance c.args.key) c.self.view_is)) in
    let kept : IsWorld after = (dropped-kept c.args.key c.args.self.now (go-kept c.args.self.now.hardware c.args.self.now c.args.key c.requires (kept-now (seen c.self.inside.pmus c.self.inside.events c.self.inside.contexts c.self.inside.families c.self.inside.processors c.self.inside.tasks c.self.inside.used c.self.inside.mapped c.self.inside.next_id) c.args.self.now c.self.view_is c.self.invariant.kept))) in
    let old : World = (seen c.self.inside.pmus c.self.inside.events c.self.inside.contexts c.self.inside.families c.self.inside.processors c.self.inside.tasks c.self.inside.used c.self.inside.mapped c.self.inside.next_id) in
    let there : is_live old c.args.key ≡ true = subst (λ w. is_live w c.args.key ≡ true) (sym c.self.view_is) c.requires.live in
    stored-after c.settle_each.new.events _ after (ap (λ t. seen c.self.inside.pmus t c.leave_group.new.contexts c.leave_family.new.families c.self.inside.processors c.self.inside.tasks c.self.inside.used c.self.inside.mapped c.self.inside.next_id) c.settle_each.ensures.same ∙ is) kept
    (settled-turned c.self.inside.processors _ c.self.inside.events c.remove.new.self c.settle_each.new.events old now after c.self.view_is c.self.invariant.turned c.settle_each.ensures
    (λ u k h. subst (λ (w : World). IsTurned w u k) is (record { ready = h.ready; on = h.on }))
    (λ k live none.
    let here : is_there c.remove.new.self k ≡ true = ap (λ (w : World). is_live w k) is ∙ live in
    let taken_there : is_there (taken c.args.key c.leave_group.new.events) k ≡ true = ap (λ (t : Columns). is_there t k) (sym c.remove.ensures) ∙ here in
    let apart : k.0 ≡ c.args.key.0 → ⊥ = gone-self c.args.key c.leave_group.new.events k taken_there in
    let before : is_live old k ≡ true =
    sym (left-there c.args.key (is_key c.args.key (entry_in c.self.inside.events c.args.key).leader) c.self.inside.events (leader-there c.self.inside.pmus old c.self.invariant.kept c.args.key there)
    (λ q among. members-there c.self.inside.pmus old c.self.invariant.kept c.args.key q among) k)
    ∙ (ap (λ (t : Columns). is_there t k) (sym c.leave_group.ensures.events) ∙ (sym (gone-there c.args.key c.leave_group.new.events k apart) ∙ taken_there)) in
    let was : is_live now k ≡ true = ap (λ (w : World). is_live w k) (sym c.self.view_is) ∙ before in
    let outside : times k (after_first (entry_at old c.args.key).members) ≡ 0 = ap (times k) (sym (c.as_slice.ensures ∙ c.siblings-siblings.ensures)) ∙ none in
    let led : (entry_at now k).leader.0 ≡ c.args.key.0 → ⊥ =
    subst (λ (w : World). (entry_at w k).leader.0 ≡ c.args.key.0 → ⊥) c.self.view_is (not-led c.self.inside.pmus old c.args.key k c.self.invariant.kept before apart outside) in
    record {
      live = was;
      keeps = go-ways now.hardware now c.args.key k (kept-now (seen c.self.inside.pmus c.self.inside.events c.self.inside.contexts c.self.inside.families c.self.inside.processors c.self.inside.tasks c.self.inside.used c.self.inside.mapped c.self.inside.next_id) c.args.self.now c.self.view_is c.self.invariant.kept) c.requires.live was apart led;
      same = ap (λ t. way_in t k) (c.remove.ensures ∙ ap (taken c.args.key) c.leave_group.ensures.events) ∙ gone-ways (is_key c.args.key (entry_in c.self.inside.events c.args.key).leader) c.args.key c.self.inside.events k apart;
    }))
    (clear-family c.self.inside.used c.self.inside.families c.leave_family.new.families (ap (λ (s : Slots). s.folded) c.leave_family.ensures) (ap (λ (s : Slots). s.lost) c.leave_family.ensures) c.self.invariant.clear)

pub returns-clause-world : goal.returns-clause-world
returns-clause-world c =
    ap (λ t. seen c.self.inside.pmus t c.leave_group.new.contexts c.leave_family.new.families c.self.inside.processors c.self.inside.tasks c.self.inside.used c.self.inside.mapped c.self.inside.next_id) c.settle_each.ensures.same ∙ ((λ i. seen c.self.inside.pmus ((c.remove.ensures ∙ ap (taken c.args.key) c.leave_group.ensures.events) i) (c.leave_group.ensures.contexts i) ((c.leave_family.ensures ∙ ap (λ x. with_family x.event.0 (out_of_family x.copy c.args.key) c.self.inside.families) c.instance-instance.ensures) i) c.self.inside.processors c.self.inside.tasks c.self.inside.used c.self.inside.mapped c.self.inside.next_id) ∙ (gone c.self.inside.pmus c.self.inside.contexts c.self.inside.families c.self.inside.processors c.self.inside.tasks c.self.inside.used c.self.inside.mapped c.self.inside.next_id c.args.key c.self.inside.events ∙ ap (drop_instance c.args.key) c.self.view_is))

pub returns-clause-stage : goal.returns-clause-stage
returns-clause-stage c =
    ap stage_of (ap (λ t. seen c.self.inside.pmus t c.leave_group.new.contexts c.leave_family.new.families c.self.inside.processors c.self.inside.tasks c.self.inside.used c.self.inside.mapped c.self.inside.next_id) c.settle_each.ensures.same ∙ ((λ i. seen c.self.inside.pmus ((c.remove.ensures ∙ ap (taken c.args.key) c.leave_group.ensures.events) i) (c.leave_group.ensures.contexts i) ((c.leave_family.ensures ∙ ap (λ x. with_family x.event.0 (out_of_family x.copy c.args.key) c.self.inside.families) c.instance-instance.ensures) i) c.self.inside.processors c.self.inside.tasks c.self.inside.used c.self.inside.mapped c.self.inside.next_id) ∙ (gone c.self.inside.pmus c.self.inside.contexts c.self.inside.families c.self.inside.processors c.self.inside.tasks c.self.inside.used c.self.inside.mapped c.self.inside.next_id c.args.key c.self.inside.events ∙ ap (drop_instance c.args.key) c.self.view_is)))
    ∙ go-stage c.args.self.now.hardware c.args.self.now c.args.key (kept-now (seen c.self.inside.pmus c.self.inside.events c.self.inside.contexts c.self.inside.families c.self.inside.processors c.self.inside.tasks c.self.inside.used c.self.inside.mapped c.self.inside.next_id) c.args.self.now c.self.view_is c.self.invariant.kept) c.requires
