use Rattle.std.proofs.{Common.{◌≡◌, ◌+◌, ◌++◌, [], ◌∷◌, true, false, None, is_some, ap, slice_index_or, sym, subst, ◌∙◌, inl, inr, if◌then◌else◌}, lemmas.Bool.{cases_Bool}}
use Rattle.stage_spec.specs.{Flags.{is_pinned}, Opening.{is_used}, Shares.{no_sums}, Stage.{place_of}}
use Rattle.world_spec.specs.{Value.{World, is_live, entry_at}, Ways.{IsTurned}, StageOf.{stage_of}, Adding.{new_instance, in_family, add}}
use Rattle.world_spec.proofs.{Added.{comes-by}, WaysGone.{add-ways, leader-live}, AddedKept.{add-kept}, AddedStage.{add-stage}}
use Rattle.world_tables.specs.{Columns.{Columns, is_there, way_in}, Places.{Slots, with_family}}
use Rattle.perf_world.specs.{Parts.{newcomer, MayAdd, joined_events, joined_contexts}, Seen.{seen, IsWorld}}
use Rattle.perf_world.proofs.{TurnedGone.{joined-there, joined-ways}, Turning.{stored-after, settled-turned, not-only}}
use Rattle.perf_world.proofs.{Added.{added, added-kept, may-come}, Counted.{room-for-copy, room-for-original}, Kept.{kept-now}}
use Rattle.perf_world.proofs.Room.{list-room, unlisted, copies-room}
use Rattle.perf_world.proofs.Clear.{clear-family, clear-used}
use Rattle.perf_world.proofs.world.World.add.Goals as goal

pub join-key-requires-clause-events : goal.join-key-requires-clause-events
join-key-requires-clause-events c =
    let h : MayAdd (seen c.self.inside.pmus c.self.inside.events c.self.inside.contexts c.self.inside.families c.self.inside.processors c.self.inside.tasks c.self.inside.used c.self.inside.mapped c.self.inside.next_id) (newcomer c.args.event c.args.attr.now c.args.leader c.args.origin c.args.context) = subst (λ w. MayAdd w (newcomer c.args.event c.args.attr.now c.args.leader c.args.origin c.args.context)) (sym c.self.view_is) c.requires.may in
    elim (cases_Bool (is_some c.args.origin)) [
      | inl copy ↦ room-for-copy c.self.inside.pmus (seen c.self.inside.pmus c.self.inside.events c.self.inside.contexts c.self.inside.families c.self.inside.processors c.self.inside.tasks c.self.inside.used c.self.inside.mapped c.self.inside.next_id) c.self.invariant.kept (h.original.few copy)
      | inr first ↦ room-for-original c.self.inside.pmus (seen c.self.inside.pmus c.self.inside.events c.self.inside.contexts c.self.inside.families c.self.inside.processors c.self.inside.tasks c.self.inside.used c.self.inside.mapped c.self.inside.next_id) c.self.invariant.kept c.args.event h.slot (h.original.unused first)
    ]

pub join-key-requires-clause-new : goal.join-key-requires-clause-new
join-key-requires-clause-new c k dead = unlisted c.self.inside.pmus (seen c.self.inside.pmus c.self.inside.events c.self.inside.contexts c.self.inside.families c.self.inside.processors c.self.inside.tasks c.self.inside.used c.self.inside.mapped c.self.inside.next_id) c.self.invariant.kept (is_pinned c.new_instance-instance.result.attr) (place_of c.args.context) k dead

pub join-key-requires-clause-room : goal.join-key-requires-clause-room
join-key-requires-clause-room c =
    let h : MayAdd (seen c.self.inside.pmus c.self.inside.events c.self.inside.contexts c.self.inside.families c.self.inside.processors c.self.inside.tasks c.self.inside.used c.self.inside.mapped c.self.inside.next_id) (newcomer c.args.event c.args.attr.now c.args.leader c.args.origin c.args.context) = subst (λ w. MayAdd w (newcomer c.args.event c.args.attr.now c.args.leader c.args.origin c.args.context)) (sym c.self.view_is) c.requires.may in
    list-room c.self.inside.pmus (seen c.self.inside.pmus c.self.inside.events c.self.inside.contexts c.self.inside.families c.self.inside.processors c.self.inside.tasks c.self.inside.used c.self.inside.mapped c.self.inside.next_id) c.self.invariant.kept (is_pinned c.new_instance-instance.result.attr) (place_of c.args.context) c.args.event.0 h.slot h.first_there

pub enter_family-requires-clause-copies : goal.enter_family-requires-clause-copies
enter_family-requires-clause-copies c copy =
    let h : MayAdd (seen c.self.inside.pmus c.self.inside.events c.self.inside.contexts c.self.inside.families c.self.inside.processors c.self.inside.tasks c.self.inside.used c.self.inside.mapped c.self.inside.next_id) (newcomer c.args.event c.args.attr.now c.args.leader c.args.origin c.args.context) = subst (λ w. MayAdd w (newcomer c.args.event c.args.attr.now c.args.leader c.args.origin c.args.context)) (sym c.self.view_is) c.requires.may in
    copies-room c.self.inside.pmus (seen c.self.inside.pmus c.self.inside.events c.self.inside.contexts c.self.inside.families c.self.inside.processors c.self.inside.tasks c.self.inside.used c.self.inside.mapped c.self.inside.next_id) c.self.invariant.kept c.args.event.0 (place_of c.args.context) h.place h.first_there

pub settle-requires-clause-cpus : goal.settle-requires-clause-cpus
settle-requires-clause-cpus c = c.cpus-cpus.ensures.number ∙ sym c.self.invariant.kept.shape.running

pub settle-requires-clause-once : goal.settle-requires-clause-once
settle-requires-clause-once c = c.self.invariant.kept.running.once

pub settle-requires-clause-there : goal.settle-requires-clause-there
settle-requires-clause-there c =
    ap (λ (t : Columns). is_there t c.join-key.result) c.join-key.ensures.events ∙ joined-there c.join-key.result c.new_instance-instance.result c.args.context c.args.leader c.self.inside.events

pub settle-requires-clause-leader : goal.settle-requires-clause-leader
settle-requires-clause-leader c =
    let fresh : is_live c.args.self.now c.join-key.result ≡ false = sym (ap (λ w. is_live w c.join-key.result) c.self.view_is) ∙ c.join-key.ensures.fresh in
    let after : World = (add c.join-key.result (newcomer c.args.event c.args.attr.now c.args.leader c.args.origin c.args.context) c.args.self.now) in
    let is : seen c.self.inside.pmus c.join-key.new.events c.join-key.new.contexts c.enter_family.new.families c.self.inside.processors c.self.inside.tasks c.enter_family.new.used c.self.inside.mapped (c.self.inside.next_id + 1) ≡ after = ((λ i. seen c.self.inside.pmus ((c.join-key.ensures.events ∙ ap (λ x. joined_events c.join-key.result x c.args.context c.args.leader c.self.inside.events) (c.new_instance-instance.ensures ∙ ap (λ copy. record (new_instance (seen c.self.inside.pmus c.self.inside.events c.self.inside.contexts c.self.inside.families c.self.inside.processors c.self.inside.tasks c.self.inside.used c.self.inside.mapped c.self.inside.next_id) (newcomer c.args.event c.args.attr.now c.args.leader c.args.origin c.args.context)) { copy = copy }) c.is_some-copy.ensures)) i) ((c.join-key.ensures.contexts ∙ ap (λ x. joined_contexts c.join-key.result x c.args.context c.args.leader c.self.inside.contexts) (c.new_instance-instance.ensures ∙ ap (λ copy. record (new_instance (seen c.self.inside.pmus c.self.inside.events c.self.inside.contexts c.self.inside.families c.self.inside.processors c.self.inside.tasks c.self.inside.used c.self.inside.mapped c.self.inside.next_id) (newcomer c.args.event c.args.attr.now c.args.leader c.args.origin c.args.context)) { copy = copy }) c.is_some-copy.ensures)) i) ((c.enter_family.ensures.families ∙ ap (λ b. with_family c.args.event.0 (in_family b c.join-key.result) c.self.inside.families) c.is_some-copy.ensures) i) c.self.inside.processors c.self.inside.tasks ((c.enter_family.ensures.used ∙ ap (λ b. if b then c.self.inside.used else c.self.inside.used ++ c.args.event ∷ []) c.is_some-copy.ensures) i) c.self.inside.mapped (c.self.inside.next_id + 1))
    ∙ (added c.self.inside.pmus c.self.inside.events c.self.inside.contexts c.self.inside.families c.self.inside.processors c.self.inside.tasks c.self.inside.used c.self.inside.mapped c.self.inside.next_id c.join-key.result c.args.event c.args.attr.now c.args.leader c.args.origin c.args.context
    ∙ ap (add c.join-key.result (newcomer c.args.event c.args.attr.now c.args.leader c.args.origin c.args.context)) c.self.view_is)) in
    let kept : IsWorld after = (added-kept c.join-key.result c.args.event c.args.attr.now c.args.leader c.args.origin c.args.context c.args.self.now
    (add-kept c.args.self.now.hardware c.args.self.now c.join-key.result (newcomer c.args.event c.args.attr.now c.args.leader c.args.origin c.args.context) (may-come c.args.self.now (newcomer c.args.event c.args.attr.now c.args.leader c.args.origin c.args.context) c.join-key.result c.requires.may fresh) c.requires.may.original c.requires.may.group (kept-now (seen c.self.inside.pmus c.self.inside.events c.self.inside.contexts c.self.inside.families c.self.inside.processors c.self.inside.tasks c.self.inside.used c.self.inside.mapped c.self.inside.next_id) c.args.self.now c.self.view_is c.self.invariant.kept))) in
    let live : is_live after c.join-key.result ≡ true =
    ap (λ (w : World). is_live w c.join-key.result) (sym is)
    ∙ (ap (λ (t : Columns). is_there t c.join-key.result) c.join-key.ensures.events ∙ joined-there c.join-key.result c.new_instance-instance.result c.args.context c.args.leader c.self.inside.events) in
    ap (λ (w : World). is_live w (entry_at w c.join-key.result).leader) is ∙ leader-live after.hardware after c.join-key.result kept live

pub invariant_of-self : goal.invariant_of-self
invariant_of-self c =
    let fresh : is_live c.args.self.now c.join-key.result ≡ false = sym (ap (λ w. is_live w c.join-key.result) c.self.view_is) ∙ c.join-key.ensures.fresh in
    let now : World = c.args.self.now in
    let after : World = (add c.join-key.result (newcomer c.args.event c.args.attr.now c.args.leader c.args.origin c.args.context) c.args.self.now) in
    let is : seen c.self.inside.pmus c.join-key.new.events c.join-key.new.contexts c.enter_family.new.families c.self.inside.processors c.self.inside.tasks c.enter_family.new.used c.self.inside.mapped (c.self.inside.next_id + 1) ≡ after = ((λ i. seen c.self.inside.pmus ((c.join-key.ensures.events ∙ ap (λ x. joined_events c.join-key.result x c.args.context c.args.leader c.self.inside.events) (c.new_instance-instance.ensures ∙ ap (λ copy. record (new_instance (seen c.self.inside.pmus c.self.inside.events c.self.inside.contexts c.self.inside.families c.self.inside.processors c.self.inside.tasks c.self.inside.used c.self.inside.mapped c.self.inside.next_id) (newcomer c.args.event c.args.attr.now c.args.leader c.args.origin c.args.context)) { copy = copy }) c.is_some-copy.ensures)) i) ((c.join-key.ensures.contexts ∙ ap (λ x. joined_contexts c.join-key.result x c.args.context c.args.leader c.self.inside.contexts) (c.new_instance-instance.ensures ∙ ap (λ copy. record (new_instance (seen c.self.inside.pmus c.self.inside.events c.self.inside.contexts c.self.inside.families c.self.inside.processors c.self.inside.tasks c.self.inside.used c.self.inside.mapped c.self.inside.next_id) (newcomer c.args.event c.args.attr.now c.args.leader c.args.origin c.args.context)) { copy = copy }) c.is_some-copy.ensures)) i) ((c.enter_family.ensures.families ∙ ap (λ b. with_family c.args.event.0 (in_family b c.join-key.result) c.self.inside.families) c.is_some-copy.ensures) i) c.self.inside.processors c.self.inside.tasks ((c.enter_family.ensures.used ∙ ap (λ b. if b then c.self.inside.used else c.self.inside.used ++ c.args.event ∷ []) c.is_some-copy.ensures) i) c.self.inside.mapped (c.self.inside.next_id + 1))
    ∙ (added c.self.inside.pmus c.self.inside.events c.self.inside.contexts c.self.inside.families c.self.inside.processors c.self.inside.tasks c.self.inside.used c.self.inside.mapped c.self.inside.next_id c.join-key.result c.args.event c.args.attr.now c.args.leader c.args.origin c.args.context
    ∙ ap (add c.join-key.result (newcomer c.args.event c.args.attr.now c.args.leader c.args.origin c.args.context)) c.self.view_is)) in
    let kept : IsWorld after = (added-kept c.join-key.result c.args.event c.args.attr.now c.args.leader c.args.origin c.args.context c.args.self.now
    (add-kept c.args.self.now.hardware c.args.self.now c.join-key.result (newcomer c.args.event c.args.attr.now c.args.leader c.args.origin c.args.context) (may-come c.args.self.now (newcomer c.args.event c.args.attr.now c.args.leader c.args.origin c.args.context) c.join-key.result c.requires.may fresh) c.requires.may.original c.requires.may.group (kept-now (seen c.self.inside.pmus c.self.inside.events c.self.inside.contexts c.self.inside.families c.self.inside.processors c.self.inside.tasks c.self.inside.used c.self.inside.mapped c.self.inside.next_id) c.args.self.now c.self.view_is c.self.invariant.kept))) in
    stored-after c.settle.new.events _ after (ap (λ t. seen c.self.inside.pmus t c.join-key.new.contexts c.enter_family.new.families c.self.inside.processors c.self.inside.tasks c.enter_family.new.used c.self.inside.mapped (c.self.inside.next_id + 1)) c.settle.ensures.same ∙ is) kept
    (settled-turned c.self.inside.processors (c.join-key.result ∷ []) c.self.inside.events c.join-key.new.events c.settle.new.events (seen c.self.inside.pmus c.self.inside.events c.self.inside.contexts c.self.inside.families c.self.inside.processors c.self.inside.tasks c.self.inside.used c.self.inside.mapped c.self.inside.next_id) now after c.self.view_is c.self.invariant.turned c.settle.ensures
    (λ u k h. subst (λ (w : World). IsTurned w u k) is (record { ready = h.ready; on = h.on }))
    (λ k live none.
    let apart : k.0 ≡ c.join-key.result.0 → ⊥ = not-only c.join-key.result k none in
    let was : is_live now k ≡ true = sym (ap (λ x. x.live) ((comes-by now c.join-key.result (newcomer c.args.event c.args.attr.now c.args.leader c.args.origin c.args.context) fresh c.args.leader c.requires.may.group).others k apart)) ∙ live in
    record {
      live = was;
      keeps = add-ways now.hardware now c.join-key.result (newcomer c.args.event c.args.attr.now c.args.leader c.args.origin c.args.context) k (kept-now (seen c.self.inside.pmus c.self.inside.events c.self.inside.contexts c.self.inside.families c.self.inside.processors c.self.inside.tasks c.self.inside.used c.self.inside.mapped c.self.inside.next_id) c.args.self.now c.self.view_is c.self.invariant.kept) (may-come now (newcomer c.args.event c.args.attr.now c.args.leader c.args.origin c.args.context) c.join-key.result c.requires.may fresh) c.requires.may.group was;
      same = ap (λ t. way_in t k) c.join-key.ensures.events ∙ joined-ways c.join-key.result c.new_instance-instance.result c.args.context c.args.leader c.self.inside.events k apart;
    }))
    (clear-used _ c.self.inside.used c.enter_family.new.used c.args.event c.enter_family.new.families c.enter_family.ensures.used
    (clear-family c.self.inside.used c.self.inside.families c.enter_family.new.families (ap (λ (s : Slots). s.folded) c.enter_family.ensures.families) (ap (λ (s : Slots). s.lost) c.enter_family.ensures.families) c.self.invariant.clear))

pub returns-clause-fresh : goal.returns-clause-fresh
returns-clause-fresh c = sym (ap (λ w. is_live w c.join-key.result) c.self.view_is) ∙ c.join-key.ensures.fresh

pub returns-clause-world : goal.returns-clause-world
returns-clause-world c =
    ap (λ t. seen c.self.inside.pmus t c.join-key.new.contexts c.enter_family.new.families c.self.inside.processors c.self.inside.tasks c.enter_family.new.used c.self.inside.mapped (c.self.inside.next_id + 1)) c.settle.ensures.same ∙ ((λ i. seen c.self.inside.pmus ((c.join-key.ensures.events ∙ ap (λ x. joined_events c.join-key.result x c.args.context c.args.leader c.self.inside.events) (c.new_instance-instance.ensures ∙ ap (λ copy. record (new_instance (seen c.self.inside.pmus c.self.inside.events c.self.inside.contexts c.self.inside.families c.self.inside.processors c.self.inside.tasks c.self.inside.used c.self.inside.mapped c.self.inside.next_id) (newcomer c.args.event c.args.attr.now c.args.leader c.args.origin c.args.context)) { copy = copy }) c.is_some-copy.ensures)) i) ((c.join-key.ensures.contexts ∙ ap (λ x. joined_contexts c.join-key.result x c.args.context c.args.leader c.self.inside.contexts) (c.new_instance-instance.ensures ∙ ap (λ copy. record (new_instance (seen c.self.inside.pmus c.self.inside.events c.self.inside.contexts c.self.inside.families c.self.inside.processors c.self.inside.tasks c.self.inside.used c.self.inside.mapped c.self.inside.next_id) (newcomer c.args.event c.args.attr.now c.args.leader c.args.origin c.args.context)) { copy = copy }) c.is_some-copy.ensures)) i) ((c.enter_family.ensures.families ∙ ap (λ b. with_family c.args.event.0 (in_family b c.join-key.result) c.self.inside.families) c.is_some-copy.ensures) i) c.self.inside.processors c.self.inside.tasks ((c.enter_family.ensures.used ∙ ap (λ b. if b then c.self.inside.used else c.self.inside.used ++ c.args.event ∷ []) c.is_some-copy.ensures) i) c.self.inside.mapped (c.self.inside.next_id + 1))
    ∙ (added c.self.inside.pmus c.self.inside.events c.self.inside.contexts c.self.inside.families c.self.inside.processors c.self.inside.tasks c.self.inside.used c.self.inside.mapped c.self.inside.next_id c.join-key.result c.args.event c.args.attr.now c.args.leader c.args.origin c.args.context
    ∙ ap (add c.join-key.result (newcomer c.args.event c.args.attr.now c.args.leader c.args.origin c.args.context)) c.self.view_is))

pub returns-clause-stage : goal.returns-clause-stage
returns-clause-stage c =
    let fresh : is_live c.args.self.now c.join-key.result ≡ false = sym (ap (λ w. is_live w c.join-key.result) c.self.view_is) ∙ c.join-key.ensures.fresh in
    ap stage_of (ap (λ t. seen c.self.inside.pmus t c.join-key.new.contexts c.enter_family.new.families c.self.inside.processors c.self.inside.tasks c.enter_family.new.used c.self.inside.mapped (c.self.inside.next_id + 1)) c.settle.ensures.same ∙ ((λ i. seen c.self.inside.pmus ((c.join-key.ensures.events ∙ ap (λ x. joined_events c.join-key.result x c.args.context c.args.leader c.self.inside.events) (c.new_instance-instance.ensures ∙ ap (λ copy. record (new_instance (seen c.self.inside.pmus c.self.inside.events c.self.inside.contexts c.self.inside.families c.self.inside.processors c.self.inside.tasks c.self.inside.used c.self.inside.mapped c.self.inside.next_id) (newcomer c.args.event c.args.attr.now c.args.leader c.args.origin c.args.context)) { copy = copy }) c.is_some-copy.ensures)) i) ((c.join-key.ensures.contexts ∙ ap (λ x. joined_contexts c.join-key.result x c.args.context c.args.leader c.self.inside.contexts) (c.new_instance-instance.ensures ∙ ap (λ copy. record (new_instance (seen c.self.inside.pmus c.self.inside.events c.self.inside.contexts c.self.inside.families c.self.inside.processors c.self.inside.tasks c.self.inside.used c.self.inside.mapped c.self.inside.next_id) (newcomer c.args.event c.args.attr.now c.args.leader c.args.origin c.args.context)) { copy = copy }) c.is_some-copy.ensures)) i) ((c.enter_family.ensures.families ∙ ap (λ b. with_family c.args.event.0 (in_family b c.join-key.result) c.self.inside.families) c.is_some-copy.ensures) i) c.self.inside.processors c.self.inside.tasks ((c.enter_family.ensures.used ∙ ap (λ b. if b then c.self.inside.used else c.self.inside.used ++ c.args.event ∷ []) c.is_some-copy.ensures) i) c.self.inside.mapped (c.self.inside.next_id + 1))
    ∙ (added c.self.inside.pmus c.self.inside.events c.self.inside.contexts c.self.inside.families c.self.inside.processors c.self.inside.tasks c.self.inside.used c.self.inside.mapped c.self.inside.next_id c.join-key.result c.args.event c.args.attr.now c.args.leader c.args.origin c.args.context
    ∙ ap (add c.join-key.result (newcomer c.args.event c.args.attr.now c.args.leader c.args.origin c.args.context)) c.self.view_is)))
    ∙ add-stage c.args.self.now.hardware c.args.self.now c.join-key.result (newcomer c.args.event c.args.attr.now c.args.leader c.args.origin c.args.context) (kept-now (seen c.self.inside.pmus c.self.inside.events c.self.inside.contexts c.self.inside.families c.self.inside.processors c.self.inside.tasks c.self.inside.used c.self.inside.mapped c.self.inside.next_id) c.args.self.now c.self.view_is c.self.invariant.kept) (may-come c.args.self.now (newcomer c.args.event c.args.attr.now c.args.leader c.args.origin c.args.context) c.join-key.result c.requires.may fresh) c.requires.may.group

-- the slot of an original was clear
clear-then : (c : goal.After-settle) → c.args.origin ≡ None
    → (slice_index_or c.enter_family.new.families.folded c.args.event.0 no_sums ≡ no_sums) × (slice_index_or c.enter_family.new.families.lost c.args.event.0 0 ≡ 0)
clear-then c first =
    clear-family c.self.inside.used c.self.inside.families c.enter_family.new.families (ap (λ (s : Slots). s.folded) c.enter_family.ensures.families) (ap (λ (s : Slots). s.lost) c.enter_family.ensures.families) c.self.invariant.clear c.args.event
    (ap (λ w. is_used (stage_of w) c.args.event) c.self.view_is ∙ c.requires.may.original.unused (ap is_some first))

pub returns-clause-folded : goal.returns-clause-folded
returns-clause-folded c = λ first. (clear-then c first).0

pub returns-clause-lost : goal.returns-clause-lost
returns-clause-lost c = λ first. (clear-then c first).1
