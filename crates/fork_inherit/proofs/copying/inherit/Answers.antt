use Rattle.std.proofs.Common.{Some, ◌≡◌, ap, subst, sym, ◌∙◌}
use Rattle.perf_base.specs.declared.attr.Attr.{Attr}
use Rattle.perf_base.specs.declared.standing.Context.TheVariants as context
use Rattle.stage_spec.specs.Forks.{copied_state}
use Rattle.world_spec.specs.{Adding.{Newcomer, add}, Changes.{set_own}, Copying.{copy_from}, Value.{World, is_live, instance_at, family_of}}
use Rattle.perf_world.specs.Parts.{MayAdd, newcomer}
use Rattle.fork_inherit.proofs.Single.{same-newcomer, has-come}
use Rattle.fork_inherit.proofs.copying.inherit.Goals as goal

pub add-copy-requires-clause-may : goal.add-copy-requires-clause-may
add-copy-requires-clause-may c =
    subst (MayAdd c.args.world.now)
    (sym (same-newcomer c.args.world.now.hardware c.args.world.now (instance_at c.args.world.now c.args.key) c.event_of-event.result c.attr-attr.result c.attr.result.period c.origin-origin.result c.args.child c.args.leader
    c.use_invariant.ensures c.event_of-event.ensures c.attr-attr.ensures (ap (λ (a : Attr). a.period) c.attr.ensures) c.origin-origin.ensures.origin))
    c.requires.may

pub add-copy-requires-clause-origin : goal.add-copy-requires-clause-origin
add-copy-requires-clause-origin c = ap (λ e. (family_of c.args.world.now e).original) c.event_of-event.ensures ∙ c.origin-origin.ensures.origin

pub set_own-requires-clause-live : goal.set_own-requires-clause-live
set_own-requires-clause-live c =
    let n : Newcomer = copy_from c.args.world.now c.args.child (instance_at c.args.world.now c.args.key) c.args.leader in
    let same : newcomer c.event_of-event.result (record c.attr-attr.result { period = c.attr.result.period }) c.args.leader (Some c.origin-origin.result) (context.Task c.args.child) ≡ n =
    same-newcomer c.args.world.now.hardware c.args.world.now (instance_at c.args.world.now c.args.key) c.event_of-event.result c.attr-attr.result c.attr.result.period c.origin-origin.result c.args.child c.args.leader
    c.use_invariant.ensures c.event_of-event.ensures c.attr-attr.ensures (ap (λ (a : Attr). a.period) c.attr.ensures) c.origin-origin.ensures.origin in
    ap (λ (w : World). is_live w c.add-copy.result) (c.add-copy.ensures.world ∙ ap (λ x. add c.add-copy.result x c.args.world.now) same)
    ∙ (has-come c.args.world.now c.add-copy.result n c.use_invariant.ensures c.add-copy.ensures.fresh c.requires.may).live

pub returns-clause-world : goal.returns-clause-world
returns-clause-world c =
    let same : newcomer c.event_of-event.result (record c.attr-attr.result { period = c.attr.result.period }) c.args.leader (Some c.origin-origin.result) (context.Task c.args.child)
    ≡ copy_from c.args.world.now c.args.child (instance_at c.args.world.now c.args.key) c.args.leader =
    same-newcomer c.args.world.now.hardware c.args.world.now (instance_at c.args.world.now c.args.key) c.event_of-event.result c.attr-attr.result c.attr.result.period c.origin-origin.result c.args.child c.args.leader
    c.use_invariant.ensures c.event_of-event.ensures c.attr-attr.ensures (ap (λ (a : Attr). a.period) c.attr.ensures) c.origin-origin.ensures.origin in
    c.set_own.ensures.world
    ∙ (λ i. set_own c.add-copy.result ((c.copied_state-own.ensures ∙ ap copied_state c.own.ensures) i) ((c.add-copy.ensures.world ∙ ap (λ x. add c.add-copy.result x c.args.world.now) same) i))
