use Rattle.std.proofs.Common.{◌≡◌, true, ap, sym, subst, ◌∙◌, slice_set, slice_index_or, refl, sym}
use Rattle.world_spec.specs.{StageOf.{stage_of}, Changes.{in_list, to_last}, Kept.{leads, post_at}, Value.{no_leaders, entry_at, times}}
use Rattle.world_spec.proofs.{Moving.{move-kept, move-stage}, Ways.{other-ways}}
use Rattle.world_spec.specs.Changes as change
use Rattle.stage_spec.specs.Stage.{place_of}
use Rattle.world_tables.specs.Places.{picked}
use Rattle.perf_world.{proofs.{Kept.{listed-once, kept-now}, Turning.{stored-after, stay-turned}}, specs.Seen.{seen}}
use Rattle.perf_world.proofs.world.World.move_last.Goals as goal

pub move_last-requires-clause-there : goal.move_last-requires-clause-there
move_last-requires-clause-there c =
    let lead : leads (post_at (seen c.self.inside.pmus c.self.inside.events c.self.inside.contexts c.self.inside.families c.self.inside.processors c.self.inside.tasks c.self.inside.used c.self.inside.mapped c.self.inside.next_id)) c.args.leader ≡ true = subst (λ w. leads (post_at w) c.args.leader ≡ true) (sym c.self.view_is) c.requires.leads in
    let at : (entry_at (seen c.self.inside.pmus c.self.inside.events c.self.inside.contexts c.self.inside.families c.self.inside.processors c.self.inside.tasks c.self.inside.used c.self.inside.mapped c.self.inside.next_id) c.args.leader).context ≡ c.args.context = ap (λ w. (entry_at w c.args.leader).context) c.self.view_is ∙ c.requires.context in
    rw (c.pinned-pinned.ensures, c.place_of.ensures)
    (subst (λ x. times c.args.leader (picked (entry_at (seen c.self.inside.pmus c.self.inside.events c.self.inside.contexts c.self.inside.families c.self.inside.processors c.self.inside.tasks c.self.inside.used c.self.inside.mapped c.self.inside.next_id) c.args.leader).pinned (slice_index_or c.self.inside.contexts (place_of x) no_leaders)) ≡ 1) at
    (listed-once c.self.inside.pmus (seen c.self.inside.pmus c.self.inside.events c.self.inside.contexts c.self.inside.families c.self.inside.processors c.self.inside.tasks c.self.inside.used c.self.inside.mapped c.self.inside.next_id) c.args.leader c.self.invariant.kept lead))

pub invariant_of-self : goal.invariant_of-self
invariant_of-self c =
    stored-after c.self.inside.events _ (change.move_last c.args.context c.args.leader c.args.self.now) (ap (λ t. seen c.self.inside.pmus c.self.inside.events t c.self.inside.families c.self.inside.processors c.self.inside.tasks c.self.inside.used c.self.inside.mapped c.self.inside.next_id) c.move_last.ensures ∙ ((λ i. seen c.self.inside.pmus c.self.inside.events (slice_set c.self.inside.contexts (c.place_of.ensures i) (in_list (c.pinned-pinned.ensures i) (to_last c.args.leader) (slice_index_or c.self.inside.contexts (c.place_of.ensures i) no_leaders))) c.self.inside.families c.self.inside.processors c.self.inside.tasks c.self.inside.used c.self.inside.mapped c.self.inside.next_id) ∙ ap (change.move_last c.args.context c.args.leader) c.self.view_is))
    (move-kept c.args.self.now.hardware c.args.self.now c.args.context c.args.leader c.requires.leads c.requires.context (kept-now (seen c.self.inside.pmus c.self.inside.events c.self.inside.contexts c.self.inside.families c.self.inside.processors c.self.inside.tasks c.self.inside.used c.self.inside.mapped c.self.inside.next_id) c.args.self.now c.self.view_is c.self.invariant.kept))
    (stay-turned c.self.inside.events c.self.inside.events (seen c.self.inside.pmus c.self.inside.events c.self.inside.contexts c.self.inside.families c.self.inside.processors c.self.inside.tasks c.self.inside.used c.self.inside.mapped c.self.inside.next_id) c.args.self.now (change.move_last c.args.context c.args.leader c.args.self.now) c.self.view_is c.self.invariant.turned
    (λ k live. refl)
    (λ k live. live)
    (λ k live. other-ways c.args.self.now (change.move_last c.args.context c.args.leader c.args.self.now) k refl refl refl)) c.self.invariant.clear

pub returns-clause-stage : goal.returns-clause-stage
returns-clause-stage c =
    ap stage_of (ap (λ t. seen c.self.inside.pmus c.self.inside.events t c.self.inside.families c.self.inside.processors c.self.inside.tasks c.self.inside.used c.self.inside.mapped c.self.inside.next_id) c.move_last.ensures ∙ ((λ i. seen c.self.inside.pmus c.self.inside.events (slice_set c.self.inside.contexts (c.place_of.ensures i) (in_list (c.pinned-pinned.ensures i) (to_last c.args.leader) (slice_index_or c.self.inside.contexts (c.place_of.ensures i) no_leaders))) c.self.inside.families c.self.inside.processors c.self.inside.tasks c.self.inside.used c.self.inside.mapped c.self.inside.next_id) ∙ ap (change.move_last c.args.context c.args.leader) c.self.view_is))
    ∙ move-stage c.args.self.now.hardware c.args.self.now c.args.context c.args.leader (kept-now (seen c.self.inside.pmus c.self.inside.events c.self.inside.contexts c.self.inside.families c.self.inside.processors c.self.inside.tasks c.self.inside.used c.self.inside.mapped c.self.inside.next_id) c.args.self.now c.self.view_is c.self.invariant.kept) c.requires.leads c.requires.context
