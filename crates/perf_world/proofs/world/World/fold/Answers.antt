use Rattle.std.proofs.Common.{◌≡◌, true, ap, sym, subst, ◌∙◌, slice_index_or, List, ◌≤◌}
use Rattle.stage_spec.specs.{Families.{plus}, Shares.{no_sums}}
use Rattle.world_spec.specs.{Value.{no_family, is_live, instance_at, account_at, is_key, times, World, entry_at}, StageOf.{stage_of, after_first}}
use Rattle.world_spec.specs.{Adding.{fold_sums, folded_away, out_of_family}, Kept.{family_sums}, Ways.{IsTurned}}
use Rattle.world_spec.proofs.{Folding.{fold-kept, fold-stage, fold-sums}, WaysGone.{fold-ways, leader-live}}
use Rattle.world_tables.specs.{Columns.{Columns, is_there, entry_in, taken, way_in}, Places.{Slots, IsBelow, with_family}}
use Rattle.perf_world.{specs.Seen.{seen, IsWorld}, proofs.Gone.{gone, left-there, members-there, copy-once, fold-room, both-true, dropped-kept}}
use Rattle.perf_world.proofs.{Gone.{leader-there, fold_families, folded-in}, Kept.{kept-now, listed-once}, Room.{room-behind}}
use Rattle.perf_world.proofs.TurnedGone.{gone-there, gone-self, gone-ways, not-led}
use Rattle.perf_world.proofs.Turning.{stored-after, settled-turned, sibling-apart}
use Rattle.perf_world.proofs.Clear.{clear-family, clear-folded, other-slot}
use Rattle.stage_spec.specs.declared.instance.Instance.{Instance}
use Rattle.perf_world.proofs.world.World.fold.Goals as goal
use Rattle.perf_base.specs.declared.numbers.Key.{Key}

pub leave_group-requires-clause-siblings : goal.leave_group-requires-clause-siblings
leave_group-requires-clause-siblings c k there = members-there c.self.inside.pmus (seen c.self.inside.pmus c.self.inside.events c.self.inside.contexts c.self.inside.families c.self.inside.processors c.self.inside.tasks c.self.inside.used c.self.inside.mapped c.self.inside.next_id) c.self.invariant.kept c.args.copy k there

pub leave_group-requires-clause-listed : goal.leave_group-requires-clause-listed
leave_group-requires-clause-listed c leading =
    let live : is_live (seen c.self.inside.pmus c.self.inside.events c.self.inside.contexts c.self.inside.families c.self.inside.processors c.self.inside.tasks c.self.inside.used c.self.inside.mapped c.self.inside.next_id) c.args.copy ≡ true = subst (λ w. is_live w c.args.copy ≡ true) (sym c.self.view_is) c.requires.live in
    listed-once c.self.inside.pmus (seen c.self.inside.pmus c.self.inside.events c.self.inside.contexts c.self.inside.families c.self.inside.processors c.self.inside.tasks c.self.inside.used c.self.inside.mapped c.self.inside.next_id) c.args.copy c.self.invariant.kept (both-true (is_live (seen c.self.inside.pmus c.self.inside.events c.self.inside.contexts c.self.inside.families c.self.inside.processors c.self.inside.tasks c.self.inside.used c.self.inside.mapped c.self.inside.next_id) c.args.copy) (is_key c.args.copy (entry_in c.self.inside.events c.args.copy).leader) live leading)

pub leave_group-requires-clause-room : goal.leave_group-requires-clause-room
leave_group-requires-clause-room c leading =
    let live : is_live (seen c.self.inside.pmus c.self.inside.events c.self.inside.contexts c.self.inside.families c.self.inside.processors c.self.inside.tasks c.self.inside.used c.self.inside.mapped c.self.inside.next_id) c.args.copy ≡ true = subst (λ w. is_live w c.args.copy ≡ true) (sym c.self.view_is) c.requires.live in
    room-behind c.self.inside.pmus (seen c.self.inside.pmus c.self.inside.events c.self.inside.contexts c.self.inside.families c.self.inside.processors c.self.inside.tasks c.self.inside.used c.self.inside.mapped c.self.inside.next_id) c.self.invariant.kept c.args.copy (both-true (is_live (seen c.self.inside.pmus c.self.inside.events c.self.inside.contexts c.self.inside.families c.self.inside.processors c.self.inside.tasks c.self.inside.used c.self.inside.mapped c.self.inside.next_id) c.args.copy) (is_key c.args.copy (entry_in c.self.inside.events c.args.copy).leader) live leading)

pub remove-requires : goal.remove-requires
remove-requires c =
    let live : is_live (seen c.self.inside.pmus c.self.inside.events c.self.inside.contexts c.self.inside.families c.self.inside.processors c.self.inside.tasks c.self.inside.used c.self.inside.mapped c.self.inside.next_id) c.args.copy ≡ true = subst (λ w. is_live w c.args.copy ≡ true) (sym c.self.view_is) c.requires.live in
    ap (λ (t : Columns). is_there t c.args.copy) c.leave_group.ensures.events
    ∙ (left-there c.args.copy (is_key c.args.copy (entry_in c.self.inside.events c.args.copy).leader) c.self.inside.events (leader-there c.self.inside.pmus (seen c.self.inside.pmus c.self.inside.events c.self.inside.contexts c.self.inside.families c.self.inside.processors c.self.inside.tasks c.self.inside.used c.self.inside.mapped c.self.inside.next_id) c.self.invariant.kept c.args.copy live)
    (λ q there. members-there c.self.inside.pmus (seen c.self.inside.pmus c.self.inside.events c.self.inside.contexts c.self.inside.families c.self.inside.processors c.self.inside.tasks c.self.inside.used c.self.inside.mapped c.self.inside.next_id) c.self.invariant.kept c.args.copy q there) c.args.copy
    ∙ live)

pub leave_family-requires-clause-there : goal.leave_family-requires-clause-there
leave_family-requires-clause-there c copied =
    let live : is_live (seen c.self.inside.pmus c.self.inside.events c.self.inside.contexts c.self.inside.families c.self.inside.processors c.self.inside.tasks c.self.inside.used c.self.inside.mapped c.self.inside.next_id) c.args.copy ≡ true = subst (λ w. is_live w c.args.copy ≡ true) (sym c.self.view_is) c.requires.live in
    let copy : (instance_at (seen c.self.inside.pmus c.self.inside.events c.self.inside.contexts c.self.inside.families c.self.inside.processors c.self.inside.tasks c.self.inside.used c.self.inside.mapped c.self.inside.next_id) c.args.copy).copy ≡ true = ap (λ w. (instance_at w c.args.copy).copy) c.self.view_is ∙ c.requires.copy in
    ap (λ (f : Slots). times c.args.copy (slice_index_or f.families c.instance.result.now.event.0 no_family).copies) c.fold.ensures
    ∙ (ap (λ x. times c.args.copy (slice_index_or c.self.inside.families.families x.event.0 no_family).copies) c.instance.ensures
    ∙ copy-once c.self.inside.pmus (seen c.self.inside.pmus c.self.inside.events c.self.inside.contexts c.self.inside.families c.self.inside.processors c.self.inside.tasks c.self.inside.used c.self.inside.mapped c.self.inside.next_id) c.self.invariant.kept c.args.copy live copy)

pub fold-requires-clause-room : goal.fold-requires-clause-room
fold-requires-clause-room c =
    let live : is_live (seen c.self.inside.pmus c.self.inside.events c.self.inside.contexts c.self.inside.families c.self.inside.processors c.self.inside.tasks c.self.inside.used c.self.inside.mapped c.self.inside.next_id) c.args.copy ≡ true = subst (λ w. is_live w c.args.copy ≡ true) (sym c.self.view_is) c.requires.live in
    subst (λ s. IsBelow (plus (slice_index_or c.self.inside.families.folded c.instance.result.now.event.0 no_sums) s)) (sym c.sums-sums.ensures)
    (subst (λ x. IsBelow (plus (slice_index_or c.self.inside.families.folded x.event.0 no_sums) (account_at (seen c.self.inside.pmus c.self.inside.events c.self.inside.contexts c.self.inside.families c.self.inside.processors c.self.inside.tasks c.self.inside.used c.self.inside.mapped c.self.inside.next_id) c.args.copy).sums)) (sym c.instance.ensures)
    (fold-room c.self.inside.pmus (seen c.self.inside.pmus c.self.inside.events c.self.inside.contexts c.self.inside.families c.self.inside.processors c.self.inside.tasks c.self.inside.used c.self.inside.mapped c.self.inside.next_id) c.self.invariant.kept c.args.copy live))

pub settle_each-requires-clause-cpus : goal.settle_each-requires-clause-cpus
settle_each-requires-clause-cpus c = c.cpus-cpus.ensures.number ∙ sym c.self.invariant.kept.shape.running

pub settle_each-requires-clause-once : goal.settle_each-requires-clause-once
settle_each-requires-clause-once c = c.self.invariant.kept.running.once

pub settle_each-requires-clause-led : goal.settle_each-requires-clause-led
settle_each-requires-clause-led c k some =
    let copied : (entry_in c.self.inside.events c.args.copy).instance.copy ≡ true = ap (λ w. (instance_at w c.args.copy).copy) c.self.view_is ∙ c.requires.copy in
    let after : World = (folded_away c.args.copy c.args.self.now) in
    let is : seen c.self.inside.pmus c.remove.new.self c.leave_group.new.contexts c.leave_family.new.families c.self.inside.processors c.self.inside.tasks c.self.inside.used c.self.inside.mapped c.self.inside.next_id ≡ after = ((λ i. seen c.self.inside.pmus ((c.remove.ensures ∙ ap (taken c.args.copy) c.leave_group.ensures.events) i) (c.leave_group.ensures.contexts i) ((c.leave_family.ensures ∙ (ap (λ (f : Slots). with_family c.instance.result.now.event.0 (out_of_family true c.args.copy) f) (folded-in c.self.inside.events c.self.inside.families c.fold.new.self c.args.copy c.instance.result.now c.sums-sums.result c.instance.ensures c.sums-sums.ensures c.fold.ensures) ∙ (λ j. with_family (c.instance.ensures j).event.0 (out_of_family (sym copied j) c.args.copy) (fold_families c.args.copy (seen c.self.inside.pmus c.self.inside.events c.self.inside.contexts c.self.inside.families c.self.inside.processors c.self.inside.tasks c.self.inside.used c.self.inside.mapped c.self.inside.next_id) c.self.inside.families)))) i) c.self.inside.processors c.self.inside.tasks c.self.inside.used c.self.inside.mapped c.self.inside.next_id) ∙ (gone c.self.inside.pmus c.self.inside.contexts (fold_families c.args.copy (seen c.self.inside.pmus c.self.inside.events c.self.inside.contexts c.self.inside.families c.self.inside.processors c.self.inside.tasks c.self.inside.used c.self.inside.mapped c.self.inside.next_id) c.self.inside.families) c.self.inside.processors c.self.inside.tasks c.self.inside.used c.self.inside.mapped c.self.inside.next_id c.args.copy c.self.inside.events ∙ ap (folded_away c.args.copy) c.self.view_is)) in
    let kept : IsWorld after = (dropped-kept c.args.copy (fold_sums c.args.copy c.args.self.now) (fold-kept c.args.self.now.hardware c.args.self.now c.args.copy c.requires.live c.requires.copy (kept-now (seen c.self.inside.pmus c.self.inside.events c.self.inside.contexts c.self.inside.families c.self.inside.processors c.self.inside.tasks c.self.inside.used c.self.inside.mapped c.self.inside.next_id) c.args.self.now c.self.view_is c.self.invariant.kept))) in
    let old : World = (seen c.self.inside.pmus c.self.inside.events c.self.inside.contexts c.self.inside.families c.self.inside.processors c.self.inside.tasks c.self.inside.used c.self.inside.mapped c.self.inside.next_id) in
    let live : is_live old c.args.copy ≡ true = subst (λ w. is_live w c.args.copy ≡ true) (sym c.self.view_is) c.requires.live in
    let among : 1 ≤ times k (after_first (entry_at old c.args.copy).members) = subst (λ (keys : List Key). 1 ≤ times k keys) (c.as_slice.ensures ∙ c.siblings-siblings.ensures) some in
    let apart : k.0 ≡ c.args.copy.0 → ⊥ = sibling-apart c.self.inside.pmus old c.args.copy k c.self.invariant.kept among in
    let there : is_there c.remove.new.self k ≡ true =
    ap (λ (t : Columns). is_there t k) c.remove.ensures
    ∙ (gone-there c.args.copy c.leave_group.new.events k apart
    ∙ (ap (λ (t : Columns). is_there t k) c.leave_group.ensures.events
    ∙ (left-there c.args.copy (is_key c.args.copy (entry_in c.self.inside.events c.args.copy).leader) c.self.inside.events (leader-there c.self.inside.pmus old c.self.invariant.kept c.args.copy live)
    (λ q there. members-there c.self.inside.pmus old c.self.invariant.kept c.args.copy q there) k
    ∙ members-there c.self.inside.pmus old c.self.invariant.kept c.args.copy k among))) in
    (there, ap (λ (w : World). is_live w (entry_at w k).leader) is ∙ leader-live after.hardware after k kept (ap (λ (w : World). is_live w k) (sym is) ∙ there))

pub invariant_of-self : goal.invariant_of-self
invariant_of-self c =
    let copied : (entry_in c.self.inside.events c.args.copy).instance.copy ≡ true = ap (λ w. (instance_at w c.args.copy).copy) c.self.view_is ∙ c.requires.copy in
    let now : World = c.args.self.now in
    let after : World = (folded_away c.args.copy c.args.self.now) in
    let is : seen c.self.inside.pmus c.remove.new.self c.leave_group.new.contexts c.leave_family.new.families c.self.inside.processors c.self.inside.tasks c.self.inside.used c.self.inside.mapped c.self.inside.next_id ≡ after = ((λ i. seen c.self.inside.pmus ((c.remove.ensures ∙ ap (taken c.args.copy) c.leave_group.ensures.events) i) (c.leave_group.ensures.contexts i) ((c.leave_family.ensures ∙ (ap (λ (f : Slots). with_family c.instance.result.now.event.0 (out_of_family true c.args.copy) f) (folded-in c.self.inside.events c.self.inside.families c.fold.new.self c.args.copy c.instance.result.now c.sums-sums.result c.instance.ensures c.sums-sums.ensures c.fold.ensures) ∙ (λ j. with_family (c.instance.ensures j).event.0 (out_of_family (sym copied j) c.args.copy) (fold_families c.args.copy (seen c.self.inside.pmus c.self.inside.events c.self.inside.contexts c.self.inside.families c.self.inside.processors c.self.inside.tasks c.self.inside.used c.self.inside.mapped c.self.inside.next_id) c.self.inside.families)))) i) c.self.inside.processors c.self.inside.tasks c.self.inside.used c.self.inside.mapped c.self.inside.next_id) ∙ (gone c.self.inside.pmus c.self.inside.contexts (fold_families c.args.copy (seen c.self.inside.pmus c.self.inside.events c.self.inside.contexts c.self.inside.families c.self.inside.processors c.self.inside.tasks c.self.inside.used c.self.inside.mapped c.self.inside.next_id) c.self.inside.families) c.self.inside.processors c.self.inside.tasks c.self.inside.used c.self.inside.mapped c.self.inside.next_id c.args.copy c.self.inside.events ∙ ap (folded_away c.args.copy) c.self.view_is)) in
    let kept : IsWorld after = (dropped-kept c.args.copy (fold_sums c.args.copy c.args.self.now) (fold-kept c.args.self.now.hardware c.args.self.now c.args.copy c.requires.live c.requires.copy (kept-now (seen c.self.inside.pmus c.self.inside.events c.self.inside.contexts c.self.inside.families c.self.inside.processors c.self.inside.tasks c.self.inside.used c.self.inside.mapped c.self.inside.next_id) c.args.self.now c.self.view_is c.self.invariant.kept))) in
    let old : World = (seen c.self.inside.pmus c.self.inside.events c.self.inside.contexts c.self.inside.families c.self.inside.processors c.self.inside.tasks c.self.inside.used c.self.inside.mapped c.self.inside.next_id) in
    let there : is_live old c.args.copy ≡ true = subst (λ w. is_live w c.args.copy ≡ true) (sym c.self.view_is) c.requires.live in
    stored-after c.settle_each.new.events _ after (ap (λ t. seen c.self.inside.pmus t c.leave_group.new.contexts c.leave_family.new.families c.self.inside.processors c.self.inside.tasks c.self.inside.used c.self.inside.mapped c.self.inside.next_id) c.settle_each.ensures.same ∙ is) kept
    (settled-turned c.self.inside.processors _ c.self.inside.events c.remove.new.self c.settle_each.new.events old now after c.self.view_is c.self.invariant.turned c.settle_each.ensures
    (λ u k h. subst (λ (w : World). IsTurned w u k) is (record { ready = h.ready; on = h.on }))
    (λ k live none.
    let here : is_there c.remove.new.self k ≡ true = ap (λ (w : World). is_live w k) is ∙ live in
    let taken_there : is_there (taken c.args.copy c.leave_group.new.events) k ≡ true = ap (λ (t : Columns). is_there t k) (sym c.remove.ensures) ∙ here in
    let apart : k.0 ≡ c.args.copy.0 → ⊥ = gone-self c.args.copy c.leave_group.new.events k taken_there in
    let before : is_live old k ≡ true =
    sym (left-there c.args.copy (is_key c.args.copy (entry_in c.self.inside.events c.args.copy).leader) c.self.inside.events (leader-there c.self.inside.pmus old c.self.invariant.kept c.args.copy there)
    (λ q among. members-there c.self.inside.pmus old c.self.invariant.kept c.args.copy q among) k)
    ∙ (ap (λ (t : Columns). is_there t k) (sym c.leave_group.ensures.events) ∙ (sym (gone-there c.args.copy c.leave_group.new.events k apart) ∙ taken_there)) in
    let was : is_live now k ≡ true = ap (λ (w : World). is_live w k) (sym c.self.view_is) ∙ before in
    let outside : times k (after_first (entry_at old c.args.copy).members) ≡ 0 = ap (times k) (sym (c.as_slice.ensures ∙ c.siblings-siblings.ensures)) ∙ none in
    let led : (entry_at now k).leader.0 ≡ c.args.copy.0 → ⊥ =
    subst (λ (w : World). (entry_at w k).leader.0 ≡ c.args.copy.0 → ⊥) c.self.view_is (not-led c.self.inside.pmus old c.args.copy k c.self.invariant.kept before apart outside) in
    record {
      live = was;
      keeps = fold-ways now.hardware now c.args.copy k (kept-now (seen c.self.inside.pmus c.self.inside.events c.self.inside.contexts c.self.inside.families c.self.inside.processors c.self.inside.tasks c.self.inside.used c.self.inside.mapped c.self.inside.next_id) c.args.self.now c.self.view_is c.self.invariant.kept) c.requires.live was apart led;
      same = ap (λ t. way_in t k) (c.remove.ensures ∙ ap (taken c.args.copy) c.leave_group.ensures.events) ∙ gone-ways (is_key c.args.copy (entry_in c.self.inside.events c.args.copy).leader) c.args.copy c.self.inside.events k apart;
    }))
    (clear-family c.self.inside.used c.fold.new.self c.leave_family.new.families (ap (λ (s : Slots). s.folded) c.leave_family.ensures) (ap (λ (s : Slots). s.lost) c.leave_family.ensures)
    (clear-folded c.self.inside.used c.self.inside.families c.fold.new.self _ _ c.fold.ensures
    (λ e unused same. other-slot c.self.inside.pmus old c.args.copy e c.self.invariant.kept there unused (same ∙ ap (λ (i : Instance). i.event.0) c.instance.ensures))
    c.self.invariant.clear))

pub returns-clause-world : goal.returns-clause-world
returns-clause-world c =
    let copied : (entry_in c.self.inside.events c.args.copy).instance.copy ≡ true = ap (λ w. (instance_at w c.args.copy).copy) c.self.view_is ∙ c.requires.copy in
    ap (λ t. seen c.self.inside.pmus t c.leave_group.new.contexts c.leave_family.new.families c.self.inside.processors c.self.inside.tasks c.self.inside.used c.self.inside.mapped c.self.inside.next_id) c.settle_each.ensures.same ∙ ((λ i. seen c.self.inside.pmus ((c.remove.ensures ∙ ap (taken c.args.copy) c.leave_group.ensures.events) i) (c.leave_group.ensures.contexts i) ((c.leave_family.ensures ∙ (ap (λ (f : Slots). with_family c.instance.result.now.event.0 (out_of_family true c.args.copy) f) (folded-in c.self.inside.events c.self.inside.families c.fold.new.self c.args.copy c.instance.result.now c.sums-sums.result c.instance.ensures c.sums-sums.ensures c.fold.ensures) ∙ (λ j. with_family (c.instance.ensures j).event.0 (out_of_family (sym copied j) c.args.copy) (fold_families c.args.copy (seen c.self.inside.pmus c.self.inside.events c.self.inside.contexts c.self.inside.families c.self.inside.processors c.self.inside.tasks c.self.inside.used c.self.inside.mapped c.self.inside.next_id) c.self.inside.families)))) i) c.self.inside.processors c.self.inside.tasks c.self.inside.used c.self.inside.mapped c.self.inside.next_id) ∙ (gone c.self.inside.pmus c.self.inside.contexts (fold_families c.args.copy (seen c.self.inside.pmus c.self.inside.events c.self.inside.contexts c.self.inside.families c.self.inside.processors c.self.inside.tasks c.self.inside.used c.self.inside.mapped c.self.inside.next_id) c.self.inside.families) c.self.inside.processors c.self.inside.tasks c.self.inside.used c.self.inside.mapped c.self.inside.next_id c.args.copy c.self.inside.events ∙ ap (folded_away c.args.copy) c.self.view_is))

pub returns-clause-stage : goal.returns-clause-stage
returns-clause-stage c =
    let copied : (entry_in c.self.inside.events c.args.copy).instance.copy ≡ true = ap (λ w. (instance_at w c.args.copy).copy) c.self.view_is ∙ c.requires.copy in
    ap stage_of (ap (λ t. seen c.self.inside.pmus t c.leave_group.new.contexts c.leave_family.new.families c.self.inside.processors c.self.inside.tasks c.self.inside.used c.self.inside.mapped c.self.inside.next_id) c.settle_each.ensures.same ∙ ((λ i. seen c.self.inside.pmus ((c.remove.ensures ∙ ap (taken c.args.copy) c.leave_group.ensures.events) i) (c.leave_group.ensures.contexts i) ((c.leave_family.ensures ∙ (ap (λ (f : Slots). with_family c.instance.result.now.event.0 (out_of_family true c.args.copy) f) (folded-in c.self.inside.events c.self.inside.families c.fold.new.self c.args.copy c.instance.result.now c.sums-sums.result c.instance.ensures c.sums-sums.ensures c.fold.ensures) ∙ (λ j. with_family (c.instance.ensures j).event.0 (out_of_family (sym copied j) c.args.copy) (fold_families c.args.copy (seen c.self.inside.pmus c.self.inside.events c.self.inside.contexts c.self.inside.families c.self.inside.processors c.self.inside.tasks c.self.inside.used c.self.inside.mapped c.self.inside.next_id) c.self.inside.families)))) i) c.self.inside.processors c.self.inside.tasks c.self.inside.used c.self.inside.mapped c.self.inside.next_id) ∙ (gone c.self.inside.pmus c.self.inside.contexts (fold_families c.args.copy (seen c.self.inside.pmus c.self.inside.events c.self.inside.contexts c.self.inside.families c.self.inside.processors c.self.inside.tasks c.self.inside.used c.self.inside.mapped c.self.inside.next_id) c.self.inside.families) c.self.inside.processors c.self.inside.tasks c.self.inside.used c.self.inside.mapped c.self.inside.next_id c.args.copy c.self.inside.events ∙ ap (folded_away c.args.copy) c.self.view_is)))
    ∙ fold-stage c.args.self.now.hardware c.args.self.now c.args.copy (kept-now (seen c.self.inside.pmus c.self.inside.events c.self.inside.contexts c.self.inside.families c.self.inside.processors c.self.inside.tasks c.self.inside.used c.self.inside.mapped c.self.inside.next_id) c.args.self.now c.self.view_is c.self.invariant.kept) c.requires.live c.requires.copy

pub returns-clause-sums : goal.returns-clause-sums
returns-clause-sums c slot =
    let copied : (entry_in c.self.inside.events c.args.copy).instance.copy ≡ true = ap (λ w. (instance_at w c.args.copy).copy) c.self.view_is ∙ c.requires.copy in
    ap (λ w. family_sums w slot) (ap (λ t. seen c.self.inside.pmus t c.leave_group.new.contexts c.leave_family.new.families c.self.inside.processors c.self.inside.tasks c.self.inside.used c.self.inside.mapped c.self.inside.next_id) c.settle_each.ensures.same ∙ ((λ i. seen c.self.inside.pmus ((c.remove.ensures ∙ ap (taken c.args.copy) c.leave_group.ensures.events) i) (c.leave_group.ensures.contexts i) ((c.leave_family.ensures ∙ (ap (λ (f : Slots). with_family c.instance.result.now.event.0 (out_of_family true c.args.copy) f) (folded-in c.self.inside.events c.self.inside.families c.fold.new.self c.args.copy c.instance.result.now c.sums-sums.result c.instance.ensures c.sums-sums.ensures c.fold.ensures) ∙ (λ j. with_family (c.instance.ensures j).event.0 (out_of_family (sym copied j) c.args.copy) (fold_families c.args.copy (seen c.self.inside.pmus c.self.inside.events c.self.inside.contexts c.self.inside.families c.self.inside.processors c.self.inside.tasks c.self.inside.used c.self.inside.mapped c.self.inside.next_id) c.self.inside.families)))) i) c.self.inside.processors c.self.inside.tasks c.self.inside.used c.self.inside.mapped c.self.inside.next_id) ∙ (gone c.self.inside.pmus c.self.inside.contexts (fold_families c.args.copy (seen c.self.inside.pmus c.self.inside.events c.self.inside.contexts c.self.inside.families c.self.inside.processors c.self.inside.tasks c.self.inside.used c.self.inside.mapped c.self.inside.next_id) c.self.inside.families) c.self.inside.processors c.self.inside.tasks c.self.inside.used c.self.inside.mapped c.self.inside.next_id c.args.copy c.self.inside.events ∙ ap (folded_away c.args.copy) c.self.view_is)))
    ∙ fold-sums c.args.self.now.hardware c.args.self.now c.args.copy (kept-now (seen c.self.inside.pmus c.self.inside.events c.self.inside.contexts c.self.inside.families c.self.inside.processors c.self.inside.tasks c.self.inside.used c.self.inside.mapped c.self.inside.next_id) c.args.self.now c.self.view_is c.self.invariant.kept) c.requires.live c.requires.copy slot
