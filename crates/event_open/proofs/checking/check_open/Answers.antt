use Rattle.std.proofs.{Common.{map, sym, subst, refl}, lemmas.Result.{err_from_is_err_and}}
use Rattle.counter_match.specs.Seating.{AreDistinct}
use Rattle.world_spec.specs.{StageOf.{stage_of}, Value.{instance_at}}
use Rattle.event_open.{specs.Demanded.{demanded_with}, proofs.{Admitting.{demands-distinct}, Leaders.{led-members}}}
use Rattle.event_open.proofs.Refusing.{slot-unused, refusal-parts, refusal-keys}
use Rattle.event_open.proofs.checking.check_open.Goals as goal

pub check_counters-requires-clause-distinct : goal.check_counters-requires-clause-distinct
check_counters-requires-clause-distinct c =
    subst (λ keys. AreDistinct (demanded_with c.args.world.now.hardware (map (instance_at c.args.world.now) keys) c.args.event c.args.attr.now.kind)) (sym c.members_led-members.ensures.members)
    (demands-distinct c.args.world.now c.args.event c.args.attr.now c.in_ok-first.first c.use_invariant.ensures
    (slot-unused c.args.world.now.hardware (stage_of c.args.world.now) c.args.event c.args.attr.now c.in_ok-check_event.ensures.ok))

pub returns-in_err-check_event-clause-err : goal.returns-in_err-check_event-clause-err
returns-in_err-check_event-clause-err c =
    let p = err_from_is_err_and c.from_residual.result c.from_residual.ensures.1 in
    rw (p.1, p.2, refusal-parts c.args.world.now.hardware (stage_of c.args.world.now) c.args.event c.args.attr.now c.args.leader, c.in_err-check_event.ensures.err) refl

pub returns-in_err-first-clause-err : goal.returns-in_err-first-clause-err
returns-in_err-first-clause-err c =
    let p = err_from_is_err_and c.from_residual-in_err-first.result c.from_residual-in_err-first.ensures.1 in
    rw (p.1, p.2, refusal-parts c.args.world.now.hardware (stage_of c.args.world.now) c.args.event c.args.attr.now c.args.leader, c.in_ok-check_event.ensures.ok, c.in_err-first.ensures.err) refl

pub returns-in_err-check_group-clause-err : goal.returns-in_err-check_group-clause-err
returns-in_err-check_group-clause-err c =
    let p = err_from_is_err_and c.from_residual-in_err-check_group.result c.from_residual-in_err-check_group.ensures.1 in
    rw (
      p.1,
      p.2,
      refusal-keys c.args.world.now c.args.event c.args.attr.now c.args.leader c.members_led-members.result.now
          (led-members c.args.world.now c.args.leader c.in_ok-first.first c.members_led-members.result.now c.use_invariant.ensures c.in_ok-first.ensures.key c.in_ok-first.ensures.leads c.members_led-members.ensures.members),
      c.in_ok-check_event.ensures.ok,
      c.in_ok-first.ensures.ok,
      c.in_err-check_group.ensures.err,
    ) refl

pub returns-in_err-check_counters-clause-err : goal.returns-in_err-check_counters-clause-err
returns-in_err-check_counters-clause-err c =
    let p = err_from_is_err_and c.from_residual-in_err-check_counters.result c.from_residual-in_err-check_counters.ensures.1 in
    rw (
      p.1,
      p.2,
      refusal-keys c.args.world.now c.args.event c.args.attr.now c.args.leader c.members_led-members.result.now
          (led-members c.args.world.now c.args.leader c.in_ok-first.first c.members_led-members.result.now c.use_invariant.ensures c.in_ok-first.ensures.key c.in_ok-first.ensures.leads c.members_led-members.ensures.members),
      c.in_ok-check_event.ensures.ok,
      c.in_ok-first.ensures.ok,
      c.in_ok-check_group.ensures.ok,
    ) c.in_err-check_counters.ensures.err

pub returns-clause-ok : goal.returns-clause-ok
returns-clause-ok c =
    rw (
      refusal-keys c.args.world.now c.args.event c.args.attr.now c.args.leader c.members_led-members.result.now
          (led-members c.args.world.now c.args.leader c.in_ok-first.first c.members_led-members.result.now c.use_invariant.ensures c.in_ok-first.ensures.key c.in_ok-first.ensures.leads c.members_led-members.ensures.members),
      c.in_ok-check_event.ensures.ok,
      c.in_ok-first.ensures.ok,
      c.in_ok-check_group.ensures.ok,
    ) c.in_ok-check_counters.ensures.ok
