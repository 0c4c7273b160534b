use Rattle.std.{proofs.{Common.{◌≡◌, Option, None, Some, Err, ap, sym, subst, refl, ◌∙◌}, lemmas.Result.{err_from_is_err_and}}, specs.Option.{ok_or}}
use Rattle.perf_base.specs.declared.{numbers.Key.{Key}, reasons.Reason.{Reason}}
use Rattle.stage_spec.specs.Refusals.{first_of}
use Rattle.world_spec.specs.StageOf.{stage_of}
use Rattle.event_open.{specs.Faults.{leader_faults}, proofs.{Leaders.{joining-faults}, Refusing.{closed-first}}}
use Rattle.event_open.proofs.leading.check_leader.Goals as goal

-- an error is the one that stands for nothing
nothing : (o : Option Key) (e r : Reason) → ok_or o e ≡ Err r → (o ≡ None) × (e ≡ r)
nothing None e r is = (refl, cc)
nothing (Some k) e r is = absurd (cc)

pub returns-in_err-first-clause-err : goal.returns-in_err-first-clause-err
returns-in_err-first-clause-err c =
    let p = err_from_is_err_and c.from_residual.result c.from_residual.ensures.1 in
    let closed = nothing c.key_of.result _ c.in_err-first.field-0.0 (sym c.in_err-first.ensures.value) in
    rw (p.1, p.2) (subst (λ leader. first_of (leader_faults (stage_of c.args.world.now) c.args.attr.now leader) ≡ Some c.in_err-first.field-0.0) (sym c.in-Some.is)
    (closed-first c.args.world.now c.args.attr.now c.in-Some.leader c.key_of.ensures.kept (sym c.key_of.ensures.key ∙ closed.0) ∙ ap (λ r. Some r) closed.1))

pub returns-in_err-check_joining-clause-err : goal.returns-in_err-check_joining-clause-err
returns-in_err-check_joining-clause-err c =
    let p = err_from_is_err_and c.from_residual-in_err-check_joining.result c.from_residual-in_err-check_joining.ensures.1 in
    rw (p.1, p.2) (subst (λ leader. first_of (leader_faults (stage_of c.args.world.now) c.args.attr.now leader) ≡ Some c.in_err-check_joining.field-0.0) (sym c.in-Some.is)
    (ap first_of (joining-faults c.args.world.now c.args.attr.now c.in-Some.leader c.in_ok-first.first c.key_of.ensures.kept (sym c.key_of.ensures.key ∙ c.in_ok-first.ensures.ok_part)) ∙ c.in_err-check_joining.ensures.err))

pub returns-clause-ok : goal.returns-clause-ok
returns-clause-ok c =
    subst (λ leader. first_of (leader_faults (stage_of c.args.world.now) c.args.attr.now leader) ≡ None) (sym c.in-Some.is)
    (ap first_of (joining-faults c.args.world.now c.args.attr.now c.in-Some.leader c.in_ok-first.first c.key_of.ensures.kept (sym c.key_of.ensures.key ∙ c.in_ok-first.ensures.ok_part)) ∙ c.in_ok-check_joining.ensures.ok)
