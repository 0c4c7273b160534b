use Rattle.std.proofs.{Common.{◌≡◌, ◌++◌, true, false, arith, refl, List, ap, subst, sym, ◌∙◌, length}, lemmas.List.{length-map}}
use Rattle.perf_base.specs.declared.numbers.Key.{Key}
use Rattle.stage_spec.specs.Stage.{task_on}
use Rattle.world_spec.specs.{StageOf.{lists_at, stage_of}, Value.{World, is_live, entry_at}, Ways.{IsTurned, is_context_of}}
use Rattle.world_spec.proofs.{Placing.{place-kept, place-stage}, Ways.{place-ways}}
use Rattle.world_spec.specs.Changes as change
use Rattle.world_tables.specs.Columns.{Columns}
use Rattle.perf_world.{specs.{Seen.{seen, IsWorld}, Settling.{task_keys, RunOnce}}, proofs.Kept.{kept-now, placed, placed-kept, task-there}}
use Rattle.perf_world.proofs.Turning.{stored-after, settled-turned, more-settled, both-times, task-led, task-leaders-there, task-outside, running-below, placed-below, placed-live}
use Rattle.perf_world.proofs.world.World.place.Goals as goal

pub note_last-requires : goal.note_last-requires
note_last-requires c t is =
    let kept = (kept-now (seen c.self.inside.pmus c.self.inside.events c.self.inside.contexts c.self.inside.families c.self.inside.processors c.self.inside.tasks c.self.inside.used c.self.inside.mapped c.self.inside.next_id) c.args.self.now c.self.view_is c.self.invariant.kept) in
    omega (arith, task-there c.args.self.now.quiet.tasks t.0 (c.requires.free t is).live, kept.shape.tasks)

pub settle_task-requires-clause-cpus : goal.settle_task-requires-clause-cpus
settle_task-requires-clause-cpus c =
    let is : seen c.self.inside.pmus c.self.inside.events c.self.inside.contexts c.self.inside.families c.set_running.new.self c.note_last.new.tasks c.self.inside.used c.self.inside.mapped c.self.inside.next_id ≡ change.place c.args.cpu c.args.task c.args.self.now = ((λ i. seen c.self.inside.pmus c.self.inside.events c.self.inside.contexts c.self.inside.families (c.set_running.ensures i) (c.note_last.ensures i) c.self.inside.used c.self.inside.mapped c.self.inside.next_id) ∙ (placed c.self.inside.pmus c.self.inside.events c.self.inside.contexts c.self.inside.families c.self.inside.processors c.self.inside.tasks c.self.inside.used c.self.inside.mapped c.self.inside.next_id c.args.cpu c.args.task ∙ ap (change.place c.args.cpu c.args.task) c.self.view_is)) in
    let kept : IsWorld (change.place c.args.cpu c.args.task c.args.self.now) = (placed-kept c.args.cpu c.args.task c.args.self.now (place-kept c.args.self.now.hardware c.args.self.now c.args.cpu c.args.task c.requires.cpu c.requires.free (kept-now (seen c.self.inside.pmus c.self.inside.events c.self.inside.contexts c.self.inside.families c.self.inside.processors c.self.inside.tasks c.self.inside.used c.self.inside.mapped c.self.inside.next_id) c.args.self.now c.self.view_is c.self.invariant.kept))) in
    c.cpus-cpus.ensures.number ∙ (ap (λ (w : World). length w.hardware.cpu_pmus) is ∙ (sym kept.shape.running ∙ ap (λ (w : World). length w.quiet.running) (sym is)))

pub settle_task-requires-clause-once : goal.settle_task-requires-clause-once
settle_task-requires-clause-once c =
    let is : seen c.self.inside.pmus c.self.inside.events c.self.inside.contexts c.self.inside.families c.set_running.new.self c.note_last.new.tasks c.self.inside.used c.self.inside.mapped c.self.inside.next_id ≡ change.place c.args.cpu c.args.task c.args.self.now = ((λ i. seen c.self.inside.pmus c.self.inside.events c.self.inside.contexts c.self.inside.families (c.set_running.ensures i) (c.note_last.ensures i) c.self.inside.used c.self.inside.mapped c.self.inside.next_id) ∙ (placed c.self.inside.pmus c.self.inside.events c.self.inside.contexts c.self.inside.families c.self.inside.processors c.self.inside.tasks c.self.inside.used c.self.inside.mapped c.self.inside.next_id c.args.cpu c.args.task ∙ ap (change.place c.args.cpu c.args.task) c.self.view_is)) in
    let kept : IsWorld (change.place c.args.cpu c.args.task c.args.self.now) = (placed-kept c.args.cpu c.args.task c.args.self.now (place-kept c.args.self.now.hardware c.args.self.now c.args.cpu c.args.task c.requires.cpu c.requires.free (kept-now (seen c.self.inside.pmus c.self.inside.events c.self.inside.contexts c.self.inside.families c.self.inside.processors c.self.inside.tasks c.self.inside.used c.self.inside.mapped c.self.inside.next_id) c.args.self.now c.self.view_is c.self.invariant.kept))) in
    subst (λ (w : World). RunOnce w.quiet.running) (sym is) kept.running.once

pub settle_task-requires-clause-number : goal.settle_task-requires-clause-number
settle_task-requires-clause-number c =
    running-below c.self.inside.pmus (seen c.self.inside.pmus c.self.inside.events c.self.inside.contexts c.self.inside.families c.self.inside.processors c.self.inside.tasks c.self.inside.used c.self.inside.mapped c.self.inside.next_id) c.args.cpu c.running-before.result c.self.invariant.kept c.running-before.ensures

pub settle_task-requires-clause-places : goal.settle_task-requires-clause-places
settle_task-requires-clause-places c = sym (length-map c.self.inside.contexts (lists_at (seen c.self.inside.pmus c.self.inside.events c.self.inside.contexts c.self.inside.families c.self.inside.processors c.self.inside.tasks c.self.inside.used c.self.inside.mapped c.self.inside.next_id))) ∙ c.self.invariant.kept.shape.contexts

pub settle_task-requires-clause-there : goal.settle_task-requires-clause-there
settle_task-requires-clause-there c = task-leaders-there c.self.inside.pmus (seen c.self.inside.pmus c.self.inside.events c.self.inside.contexts c.self.inside.families c.self.inside.processors c.self.inside.tasks c.self.inside.used c.self.inside.mapped c.self.inside.next_id) c.self.invariant.kept c.self.inside.events c.self.inside.contexts refl refl c.running-before.result

pub settle_task-requires-clause-led : goal.settle_task-requires-clause-led
settle_task-requires-clause-led c = task-led c.self.inside.pmus (seen c.self.inside.pmus c.self.inside.events c.self.inside.contexts c.self.inside.families c.self.inside.processors c.self.inside.tasks c.self.inside.used c.self.inside.mapped c.self.inside.next_id) c.self.invariant.kept c.self.inside.events c.self.inside.contexts refl refl c.running-before.result

pub settle_task-requires-2-clause-cpus : goal.settle_task-requires-2-clause-cpus
settle_task-requires-2-clause-cpus c =
    let is : seen c.self.inside.pmus c.self.inside.events c.self.inside.contexts c.self.inside.families c.set_running.new.self c.note_last.new.tasks c.self.inside.used c.self.inside.mapped c.self.inside.next_id ≡ change.place c.args.cpu c.args.task c.args.self.now = ((λ i. seen c.self.inside.pmus c.self.inside.events c.self.inside.contexts c.self.inside.families (c.set_running.ensures i) (c.note_last.ensures i) c.self.inside.used c.self.inside.mapped c.self.inside.next_id) ∙ (placed c.self.inside.pmus c.self.inside.events c.self.inside.contexts c.self.inside.families c.self.inside.processors c.self.inside.tasks c.self.inside.used c.self.inside.mapped c.self.inside.next_id c.args.cpu c.args.task ∙ ap (change.place c.args.cpu c.args.task) c.self.view_is)) in
    let kept : IsWorld (change.place c.args.cpu c.args.task c.args.self.now) = (placed-kept c.args.cpu c.args.task c.args.self.now (place-kept c.args.self.now.hardware c.args.self.now c.args.cpu c.args.task c.requires.cpu c.requires.free (kept-now (seen c.self.inside.pmus c.self.inside.events c.self.inside.contexts c.self.inside.families c.self.inside.processors c.self.inside.tasks c.self.inside.used c.self.inside.mapped c.self.inside.next_id) c.args.self.now c.self.view_is c.self.invariant.kept))) in
    c.cpus-cpus.ensures.number ∙ (ap (λ (w : World). length w.hardware.cpu_pmus) is ∙ (sym kept.shape.running ∙ ap (λ (w : World). length w.quiet.running) (sym is)))

pub settle_task-requires-2-clause-once : goal.settle_task-requires-2-clause-once
settle_task-requires-2-clause-once c =
    let is : seen c.self.inside.pmus c.self.inside.events c.self.inside.contexts c.self.inside.families c.set_running.new.self c.note_last.new.tasks c.self.inside.used c.self.inside.mapped c.self.inside.next_id ≡ change.place c.args.cpu c.args.task c.args.self.now = ((λ i. seen c.self.inside.pmus c.self.inside.events c.self.inside.contexts c.self.inside.families (c.set_running.ensures i) (c.note_last.ensures i) c.self.inside.used c.self.inside.mapped c.self.inside.next_id) ∙ (placed c.self.inside.pmus c.self.inside.events c.self.inside.contexts c.self.inside.families c.self.inside.processors c.self.inside.tasks c.self.inside.used c.self.inside.mapped c.self.inside.next_id c.args.cpu c.args.task ∙ ap (change.place c.args.cpu c.args.task) c.self.view_is)) in
    let kept : IsWorld (change.place c.args.cpu c.args.task c.args.self.now) = (placed-kept c.args.cpu c.args.task c.args.self.now (place-kept c.args.self.now.hardware c.args.self.now c.args.cpu c.args.task c.requires.cpu c.requires.free (kept-now (seen c.self.inside.pmus c.self.inside.events c.self.inside.contexts c.self.inside.families c.self.inside.processors c.self.inside.tasks c.self.inside.used c.self.inside.mapped c.self.inside.next_id) c.args.self.now c.self.view_is c.self.invariant.kept))) in
    subst (λ (w : World). RunOnce w.quiet.running) (sym is) kept.running.once

pub settle_task-requires-2-clause-number : goal.settle_task-requires-2-clause-number
settle_task-requires-2-clause-number c =
    let is : seen c.self.inside.pmus c.self.inside.events c.self.inside.contexts c.self.inside.families c.set_running.new.self c.note_last.new.tasks c.self.inside.used c.self.inside.mapped c.self.inside.next_id ≡ change.place c.args.cpu c.args.task c.args.self.now = ((λ i. seen c.self.inside.pmus c.self.inside.events c.self.inside.contexts c.self.inside.families (c.set_running.ensures i) (c.note_last.ensures i) c.self.inside.used c.self.inside.mapped c.self.inside.next_id) ∙ (placed c.self.inside.pmus c.self.inside.events c.self.inside.contexts c.self.inside.families c.self.inside.processors c.self.inside.tasks c.self.inside.used c.self.inside.mapped c.self.inside.next_id c.args.cpu c.args.task ∙ ap (change.place c.args.cpu c.args.task) c.self.view_is)) in
    let kept : IsWorld (change.place c.args.cpu c.args.task c.args.self.now) = (placed-kept c.args.cpu c.args.task c.args.self.now (place-kept c.args.self.now.hardware c.args.self.now c.args.cpu c.args.task c.requires.cpu c.requires.free (kept-now (seen c.self.inside.pmus c.self.inside.events c.self.inside.contexts c.self.inside.families c.self.inside.processors c.self.inside.tasks c.self.inside.used c.self.inside.mapped c.self.inside.next_id) c.args.self.now c.self.view_is c.self.invariant.kept))) in
    placed-below c.args.self.now c.args.task (λ t on. omega (arith, task-there c.args.self.now.quiet.tasks t.0 (c.requires.free t on).live, ((kept-now (seen c.self.inside.pmus c.self.inside.events c.self.inside.contexts c.self.inside.families c.self.inside.processors c.self.inside.tasks c.self.inside.used c.self.inside.mapped c.self.inside.next_id) c.args.self.now c.self.view_is c.self.invariant.kept)).shape.tasks))

pub settle_task-requires-2-clause-places : goal.settle_task-requires-2-clause-places
settle_task-requires-2-clause-places c = sym (length-map c.self.inside.contexts (lists_at (seen c.self.inside.pmus c.self.inside.events c.self.inside.contexts c.self.inside.families c.self.inside.processors c.self.inside.tasks c.self.inside.used c.self.inside.mapped c.self.inside.next_id))) ∙ c.self.invariant.kept.shape.contexts

pub settle_task-requires-2-clause-there : goal.settle_task-requires-2-clause-there
settle_task-requires-2-clause-there c =
    task-leaders-there c.self.inside.pmus (seen c.self.inside.pmus c.self.inside.events c.self.inside.contexts c.self.inside.families c.self.inside.processors c.self.inside.tasks c.self.inside.used c.self.inside.mapped c.self.inside.next_id) c.self.invariant.kept c.settle_task.new.events c.self.inside.contexts (ap (λ t. t.entries) c.settle_task.ensures.same) refl c.args.task

pub settle_task-requires-2-clause-led : goal.settle_task-requires-2-clause-led
settle_task-requires-2-clause-led c =
    task-led c.self.inside.pmus (seen c.self.inside.pmus c.self.inside.events c.self.inside.contexts c.self.inside.families c.self.inside.processors c.self.inside.tasks c.self.inside.used c.self.inside.mapped c.self.inside.next_id) c.self.invariant.kept c.settle_task.new.events c.self.inside.contexts (ap (λ t. t.entries) c.settle_task.ensures.same) refl c.args.task

pub invariant_of-self : goal.invariant_of-self
invariant_of-self c =
    let now : World = c.args.self.now in
    let t : Columns = c.self.inside.events in
    let mid : Columns = c.settle_task.new.events in
    let new : Columns = c.settle_task-2.new.events in
    let after : World = change.place c.args.cpu c.args.task now in
    let is : seen c.self.inside.pmus c.self.inside.events c.self.inside.contexts c.self.inside.families c.set_running.new.self c.note_last.new.tasks c.self.inside.used c.self.inside.mapped c.self.inside.next_id ≡ after = ((λ i. seen c.self.inside.pmus c.self.inside.events c.self.inside.contexts c.self.inside.families (c.set_running.ensures i) (c.note_last.ensures i) c.self.inside.used c.self.inside.mapped c.self.inside.next_id) ∙ (placed c.self.inside.pmus c.self.inside.events c.self.inside.contexts c.self.inside.families c.self.inside.processors c.self.inside.tasks c.self.inside.used c.self.inside.mapped c.self.inside.next_id c.args.cpu c.args.task ∙ ap (change.place c.args.cpu c.args.task) c.self.view_is)) in
    let kept : IsWorld after = (placed-kept c.args.cpu c.args.task c.args.self.now (place-kept c.args.self.now.hardware c.args.self.now c.args.cpu c.args.task c.requires.cpu c.requires.free (kept-now (seen c.self.inside.pmus c.self.inside.events c.self.inside.contexts c.self.inside.families c.self.inside.processors c.self.inside.tasks c.self.inside.used c.self.inside.mapped c.self.inside.next_id) c.args.self.now c.self.view_is c.self.invariant.kept))) in
    let first : List Key = task_keys t c.self.inside.contexts c.running-before.result in
    let second : List Key = task_keys mid c.self.inside.contexts c.args.task in
    stored-after new _ after (ap (λ t. seen c.self.inside.pmus t c.self.inside.contexts c.self.inside.families c.set_running.new.self c.note_last.new.tasks c.self.inside.used c.self.inside.mapped c.self.inside.next_id) c.settle_task-2.ensures.same ∙ (ap (λ t. seen c.self.inside.pmus t c.self.inside.contexts c.self.inside.families c.set_running.new.self c.note_last.new.tasks c.self.inside.used c.self.inside.mapped c.self.inside.next_id) c.settle_task.ensures.same ∙ is)) kept
    (settled-turned c.set_running.new.self (first ++ second) t t new (seen c.self.inside.pmus c.self.inside.events c.self.inside.contexts c.self.inside.families c.self.inside.processors c.self.inside.tasks c.self.inside.used c.self.inside.mapped c.self.inside.next_id) now after c.self.view_is c.self.invariant.turned
    (more-settled c.set_running.new.self first second t mid new c.settle_task.ensures c.settle_task-2.ensures)
    (λ u k h. subst (λ (w : World). IsTurned w u k) is (record { ready = h.ready; on = h.on }))
    (λ k live none.
    let was : is_live now k ≡ true = placed-live now c.args.cpu c.args.task k live in
    let there : is_live (seen c.self.inside.pmus c.self.inside.events c.self.inside.contexts c.self.inside.families c.self.inside.processors c.self.inside.tasks c.self.inside.used c.self.inside.mapped c.self.inside.next_id) k ≡ true = ap (λ (w : World). is_live w k) c.self.view_is ∙ was in
    let out : is_context_of c.running-before.result (entry_at (seen c.self.inside.pmus c.self.inside.events c.self.inside.contexts c.self.inside.families c.self.inside.processors c.self.inside.tasks c.self.inside.used c.self.inside.mapped c.self.inside.next_id) k).context ≡ false =
    task-outside c.self.inside.pmus (seen c.self.inside.pmus c.self.inside.events c.self.inside.contexts c.self.inside.families c.self.inside.processors c.self.inside.tasks c.self.inside.used c.self.inside.mapped c.self.inside.next_id) c.self.invariant.kept t c.self.inside.contexts refl refl c.running-before.result k there (omega (arith, none, both-times k first second)) in
    let off : is_context_of c.args.task (entry_at (seen c.self.inside.pmus c.self.inside.events c.self.inside.contexts c.self.inside.families c.self.inside.processors c.self.inside.tasks c.self.inside.used c.self.inside.mapped c.self.inside.next_id) k).context ≡ false =
    task-outside c.self.inside.pmus (seen c.self.inside.pmus c.self.inside.events c.self.inside.contexts c.self.inside.families c.self.inside.processors c.self.inside.tasks c.self.inside.used c.self.inside.mapped c.self.inside.next_id) c.self.invariant.kept mid c.self.inside.contexts (ap (λ x. x.entries) c.settle_task.ensures.same) refl c.args.task k there (omega (arith, none, both-times k first second)) in
    record {
      live = was;
      keeps = place-ways now c.args.cpu c.args.task k
          (ap (λ o. is_context_of o (entry_at now k).context) (ap (λ (w : World). task_on (stage_of w) c.args.cpu) (sym c.self.view_is) ∙ sym c.running-before.ensures) ∙ (ap (λ (w : World). is_context_of c.running-before.result (entry_at w k).context) (sym c.self.view_is) ∙ out))
          (ap (λ (w : World). is_context_of c.args.task (entry_at w k).context) (sym c.self.view_is) ∙ off);
      same = refl;
    })) c.self.invariant.clear

pub returns-clause-world : goal.returns-clause-world
returns-clause-world c =
    let is : seen c.self.inside.pmus c.self.inside.events c.self.inside.contexts c.self.inside.families c.set_running.new.self c.note_last.new.tasks c.self.inside.used c.self.inside.mapped c.self.inside.next_id ≡ change.place c.args.cpu c.args.task c.args.self.now = ((λ i. seen c.self.inside.pmus c.self.inside.events c.self.inside.contexts c.self.inside.families (c.set_running.ensures i) (c.note_last.ensures i) c.self.inside.used c.self.inside.mapped c.self.inside.next_id) ∙ (placed c.self.inside.pmus c.self.inside.events c.self.inside.contexts c.self.inside.families c.self.inside.processors c.self.inside.tasks c.self.inside.used c.self.inside.mapped c.self.inside.next_id c.args.cpu c.args.task ∙ ap (change.place c.args.cpu c.args.task) c.self.view_is)) in
    (ap (λ t. seen c.self.inside.pmus t c.self.inside.contexts c.self.inside.families c.set_running.new.self c.note_last.new.tasks c.self.inside.used c.self.inside.mapped c.self.inside.next_id) c.settle_task-2.ensures.same ∙ (ap (λ t. seen c.self.inside.pmus t c.self.inside.contexts c.self.inside.families c.set_running.new.self c.note_last.new.tasks c.self.inside.used c.self.inside.mapped c.self.inside.next_id) c.settle_task.ensures.same ∙ is))

pub returns-clause-stage : goal.returns-clause-stage
returns-clause-stage c =
    let is : seen c.self.inside.pmus c.self.inside.events c.self.inside.contexts c.self.inside.families c.set_running.new.self c.note_last.new.tasks c.self.inside.used c.self.inside.mapped c.self.inside.next_id ≡ change.place c.args.cpu c.args.task c.args.self.now = ((λ i. seen c.self.inside.pmus c.self.inside.events c.self.inside.contexts c.self.inside.families (c.set_running.ensures i) (c.note_last.ensures i) c.self.inside.used c.self.inside.mapped c.self.inside.next_id) ∙ (placed c.self.inside.pmus c.self.inside.events c.self.inside.contexts c.self.inside.families c.self.inside.processors c.self.inside.tasks c.self.inside.used c.self.inside.mapped c.self.inside.next_id c.args.cpu c.args.task ∙ ap (change.place c.args.cpu c.args.task) c.self.view_is)) in
    ap stage_of (ap (λ t. seen c.self.inside.pmus t c.self.inside.contexts c.self.inside.families c.set_running.new.self c.note_last.new.tasks c.self.inside.used c.self.inside.mapped c.self.inside.next_id) c.settle_task-2.ensures.same ∙ (ap (λ t. seen c.self.inside.pmus t c.self.inside.contexts c.self.inside.families c.set_running.new.self c.note_last.new.tasks c.self.inside.used c.self.inside.mapped c.self.inside.next_id) c.settle_task.ensures.same ∙ is)) ∙ place-stage c.args.self.now c.args.cpu c.args.task
