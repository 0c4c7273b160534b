use Rattle.std.proofs.Common.{arith, ◌≡◌, ◌∙◌, length, ap, sym, subst, slice_index_or}
use Rattle.stage_spec.specs.{Hardware.{Hardware}, Replies.{seated}, Settle.{settle}}
use Rattle.counter_match.specs.Seating.{empty_seating}
use Rattle.world_spec.specs.{Kept.{IsKept}, Rescheduled.{IsRescheduled, pinned_leaders}, StageOf.{stage_of}, Value.{World}}
use Rattle.world_spec.proofs.{Failing.{failed-rest}, Rescheduling.{fail-stage, fail-rescheduled}}
use Rattle.cpu_sched.proofs.{Staying.{stays-but, others-stay}, Tried.{masks-length}}
use Rattle.cpu_sched.proofs.rescheduling.resched.Goals as goal

pub returns-clause-stage : goal.returns-clause-stage
returns-clause-stage g c =
    let hw : Hardware = c.args.world.now.hardware in
    let w : World = c.judge_all.new.world in
    let kept : IsKept hw w = subst (λ h. IsKept h w) (ap (λ (x : World). x.hardware) c.judge_all.ensures.world) c.judge_all.ensures.kept in
    ap stage_of c.fail_refused.ensures
    ∙ (fail-stage hw w c.args.cpu c.judge_all.ensures.low kept c.judge_all.ensures.judged
    ∙ ap (λ (x : World). settle hw c.args.cpu (stage_of x)) c.judge_all.ensures.world)

pub returns-clause-rescheduled : goal.returns-clause-rescheduled
returns-clause-rescheduled g c =
    let hw : Hardware = c.args.world.now.hardware in
    let w : World = c.judge_all.new.world in
    let kept : IsKept hw w = subst (λ h. IsKept h w) (ap (λ (x : World). x.hardware) c.judge_all.ensures.world) c.judge_all.ensures.kept in
    subst (λ (x : World). IsRescheduled hw x c.args.cpu) (sym c.fail_refused.ensures) (fail-rescheduled hw w c.args.cpu c.judge_all.ensures.low kept c.judge_all.ensures.judged)

pub returns-clause-others : goal.returns-clause-others
returns-clause-others g c =
    let hw : Hardware = c.args.world.now.hardware in
    let w : World = c.judge_all.new.world in
    let kept : IsKept hw w = subst (λ h. IsKept h w) (ap (λ (x : World). x.hardware) c.judge_all.ensures.world) c.judge_all.ensures.kept in
    λ other low apart.
    others-stay hw c.args.world.now w c.fail_refused.new.world c.args.cpu other
    (record { kept = kept; told = c.judge_all.ensures.world; others = c.judge_all.ensures.others; failed = c.fail_refused.ensures })
    c.use_processor.ensures.kept (omega (arith, low, c.use_processor.ensures.kept.shape.running, c.use_processor.ensures.hardware.cpus)) apart

pub returns-clause-rest : goal.returns-clause-rest
returns-clause-rest g c =
    let hw : Hardware = c.args.world.now.hardware in
    let w : World = c.judge_all.new.world in
    let kept : IsKept hw w = subst (λ h. IsKept h w) (ap (λ (x : World). x.hardware) c.judge_all.ensures.world) c.judge_all.ensures.kept in
    stays-but hw c.args.world.now w c.fail_refused.new.world c.args.cpu
    (record { kept = kept; told = c.judge_all.ensures.world; others = c.judge_all.ensures.others; failed = c.fail_refused.ensures })

-- groups that go to error keep the seats
pub returns-clause-least : goal.returns-clause-least
returns-clause-least g c =
    let hw : Hardware = c.args.world.now.hardware in
    let w : World = c.judge_all.new.world in
    let x : World = c.fail_refused.new.world in
    let kept : IsKept hw w = subst (λ h. IsKept h w) (ap (λ (x : World). x.hardware) c.judge_all.ensures.world) c.judge_all.ensures.kept in
    let failed : IsRescheduled hw x c.args.cpu =
    subst (λ (x : World). IsRescheduled hw x c.args.cpu) (sym c.fail_refused.ensures) (fail-rescheduled hw w c.args.cpu c.judge_all.ensures.low kept c.judge_all.ensures.judged) in
    let quiet : x.quiet ≡ w.quiet = ap (λ (y : World). y.quiet) c.fail_refused.ensures ∙ (failed-rest (pinned_leaders w c.args.cpu) w).1 in
    omega (
      arith,
      c.judge_all.ensures.least,
      ap length failed.judged.served.events,
      masks-length hw (seated hw (stage_of x) c.args.cpu),
      ap (λ q. length (slice_index_or q.seats c.args.cpu.0 (empty_seating 0)).events) quiet,
    )
