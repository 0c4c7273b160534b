use Rattle.std.proofs.Common.{arith, ◌∙◌, ap, sym, subst, slice_index_or}
use Rattle.stage_spec.specs.{Hardware.{Hardware}, Settle.{settle}}
use Rattle.counter_match.specs.Seating.{empty_seating}
use Rattle.world_spec.specs.{Kept.{IsKept}, Rescheduled.{IsRescheduled, pinned_leaders}, StageOf.{stage_of}, Value.{World, seats_at}}
use Rattle.world_spec.proofs.{Failing.{failed-rest}, Rescheduling.{fail-stage, fail-rescheduled}}
use Rattle.cpu_sched.proofs.Staying.{stays-but, others-stay}
use Rattle.cpu_sched.proofs.adopting.adopt.Goals as goal

pub returns-clause-stage : goal.returns-clause-stage
returns-clause-stage c =
    let hw : Hardware = c.args.world.now.hardware in
    let w : World = c.take_over.new.world in
    let kept : IsKept hw w = subst (λ h. IsKept h w) (ap (λ (x : World). x.hardware) c.take_over.ensures.world) c.take_over.ensures.kept in
    ap stage_of c.fail_refused.ensures
    ∙ (fail-stage hw w c.args.cpu c.take_over.ensures.low kept c.take_over.ensures.judged
    ∙ ap (λ (x : World). settle hw c.args.cpu (stage_of x)) c.take_over.ensures.world)

pub returns-clause-rescheduled : goal.returns-clause-rescheduled
returns-clause-rescheduled c =
    let hw : Hardware = c.args.world.now.hardware in
    let w : World = c.take_over.new.world in
    let kept : IsKept hw w = subst (λ h. IsKept h w) (ap (λ (x : World). x.hardware) c.take_over.ensures.world) c.take_over.ensures.kept in
    subst (λ (x : World). IsRescheduled hw x c.args.cpu) (sym c.fail_refused.ensures) (fail-rescheduled hw w c.args.cpu c.take_over.ensures.low kept c.take_over.ensures.judged)

pub returns-clause-others : goal.returns-clause-others
returns-clause-others c =
    let hw : Hardware = c.args.world.now.hardware in
    let w : World = c.take_over.new.world in
    let kept : IsKept hw w = subst (λ h. IsKept h w) (ap (λ (x : World). x.hardware) c.take_over.ensures.world) c.take_over.ensures.kept in
    λ other low apart.
    others-stay hw c.args.world.now w c.fail_refused.new.world c.args.cpu other
    (record { kept = kept; told = c.take_over.ensures.world; others = c.take_over.ensures.others; failed = c.fail_refused.ensures })
    c.use_processor.ensures.kept (omega (arith, low, c.use_processor.ensures.kept.shape.running, c.use_processor.ensures.hardware.cpus)) apart

pub returns-clause-rest : goal.returns-clause-rest
returns-clause-rest c =
    let hw : Hardware = c.args.world.now.hardware in
    let w : World = c.take_over.new.world in
    let kept : IsKept hw w = subst (λ h. IsKept h w) (ap (λ (x : World). x.hardware) c.take_over.ensures.world) c.take_over.ensures.kept in
    stays-but hw c.args.world.now w c.fail_refused.new.world c.args.cpu
    (record { kept = kept; told = c.take_over.ensures.world; others = c.take_over.ensures.others; failed = c.fail_refused.ensures })

pub returns-clause-seats : goal.returns-clause-seats
returns-clause-seats c =
    let w : World = c.take_over.new.world in
    ap (λ (x : World). seats_at x c.args.cpu) c.fail_refused.ensures
    ∙ (ap (λ q. slice_index_or q.seats c.args.cpu.0 (empty_seating 0)) (failed-rest (pinned_leaders w c.args.cpu) w).1 ∙ c.take_over.ensures.seats)
