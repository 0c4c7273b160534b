use Rattle.std.{specs.Prelude.{◌≢◌}, proofs.Common.{arith, refl, inl, inr, ◌≡◌, ◌∙◌, ◌+◌, ◌<◌, ◌≤◌, length, ap, sym, subst, if◌then◌else◌}}
use Rattle.std.proofs.lemmas.Bool.{cases_eq}
use Rattle.perf_base.specs.declared.numbers.CpuNo.{CpuNo}
use Rattle.stage_spec.specs.{Hardware.{Hardware}, Replies.{seated}, Settle.{settle}, Stage.{Stage}}
use Rattle.world_spec.specs.{Rescheduled.{IsRescheduled, IsUntouched}, StageOf.{stage_of}, Value.{World, seats_at}}
use Rattle.cpu_sched.specs.Tried.{tried}
use Rattle.machine.proofs.Counting.{counted-all, least-next, most-next, same-tried, seats-count}
use Rattle.machine.proofs.Settling.{none-only, only-then, none-settled, settle-next, next-done, is-in_set}
use Rattle.machine.proofs.rescheduling.resched_each.Goals as goal

pub loop-cpu-init : goal.loop-cpu-init
loop-cpu-init g c = record {
  stage = none-settled c.args.world.now.hardware (stage_of c.args.world.now);
  rest = none-only c.args.world.now;
  done = λ cpu low. absurd (omega (arith, low));
  left = λ cpu low out. c.requires cpu low (λ there. out (is-in_set c.args.set cpu there));
  ahead = λ cpu past low. refl;
  least = omega arith;
  most = omega arith;
}

pub resched_if-requires-clause-cpu : goal.resched_if-requires-clause-cpu
resched_if-requires-clause-cpu g c =
    omega (arith, c.loop-cpu-test.true, c.cpus-cpu-end.ensures.number, ap (λ h. length h.cpu_pmus) c.pmus.ensures.pmus, c.pmus.ensures.kept.shape.running, ap (λ (w : World). length w.quiet.running) c.loop-cpu.invariant.rest.world)

pub resched_if-requires-clause-untouched : goal.resched_if-requires-clause-untouched
resched_if-requires-clause-untouched g c =
    let cpu : CpuNo = record { 0 = c.loop-cpu.cpu } in
    let low : cpu.0 < length c.args.world.now.quiet.running =
    omega (arith, c.loop-cpu-test.true, c.cpus-cpu-end.ensures.number, ap (λ h. length h.cpu_pmus) c.pmus.ensures.pmus, c.pmus.ensures.kept.shape.running) in
    λ out.
    subst (λ hw. IsRescheduled hw c.loop-cpu.world cpu) (sym (ap (λ (w : World). w.hardware) c.loop-cpu.invariant.rest.world))
    (c.loop-cpu.invariant.left cpu low (λ there. out (c.touches.ensures ∙ there)))

pub loop-cpu-preserved : goal.loop-cpu-preserved
loop-cpu-preserved g c =
    let cpu : CpuNo = record { 0 = c.loop-cpu.cpu } in
    let hw : Hardware = c.args.world.now.hardware in
    let same : c.loop-cpu.world.hardware ≡ hw = ap (λ (w : World). w.hardware) c.loop-cpu.invariant.rest.world in
    let size : length c.loop-cpu.world.quiet.running ≡ length c.args.world.now.quiet.running = ap (λ (w : World). length w.quiet.running) c.loop-cpu.invariant.rest.world in
    let apart : (other : CpuNo) → other.0 < length c.args.world.now.quiet.running → other.0 ≢ cpu.0 → IsUntouched hw c.loop-cpu.world c.resched_if.new.world other = λ other low off.
    subst (λ h. IsUntouched h c.loop-cpu.world c.resched_if.new.world other) same (c.resched_if.ensures.others other (omega (arith, low, size)) off) in
    let still : (other : CpuNo) → other.0 < length c.args.world.now.quiet.running → IsRescheduled hw c.loop-cpu.world other → IsRescheduled hw c.resched_if.new.world other = λ other low before.
    elim (cases_eq other.0 cpu.0) [
      | inl e ↦ subst (λ n. IsRescheduled hw c.resched_if.new.world (record { 0 = n })) (sym e) (subst (λ h. IsRescheduled h c.resched_if.new.world cpu) same c.resched_if.ensures.rescheduled)
      | inr off ↦ (apart other low off).rescheduled before
    ] in
    let within : c.loop-cpu.cpu < length c.args.world.now.quiet.running =
    omega (arith, c.loop-cpu-test.true, c.cpus-cpu-end.ensures.number, ap (λ h. length h.cpu_pmus) c.pmus.ensures.pmus, c.pmus.ensures.kept.shape.running) in
    record {
      stage = settle-next hw c.args.set c.loop-cpu.cpu (stage_of c.args.world.now) (stage_of c.loop-cpu.world) (stage_of c.resched_if.new.world) c.touches.result
          c.loop-cpu.invariant.stage (sym c.touches.ensures)
          (c.resched_if.ensures.stage ∙ ap {A = Hardware} {B = Stage} (λ h. if c.touches.result then settle h cpu (stage_of c.loop-cpu.world) else stage_of c.loop-cpu.world) same);
      rest = only-then c.args.world.now c.loop-cpu.world c.resched_if.new.world c.loop-cpu.invariant.rest c.resched_if.ensures.rest;
      done = next-done hw c.resched_if.new.world c.loop-cpu.cpu
          (λ other low. still other (omega (arith, low, within)) (c.loop-cpu.invariant.done other low))
          (subst (λ h. IsRescheduled h c.resched_if.new.world cpu) same c.resched_if.ensures.rescheduled);
      left = λ other low out. still other low (c.loop-cpu.invariant.left other low out);
      ahead = λ other past low. (apart other low (λ e. omega (arith, past, e))).briefs ∙ c.loop-cpu.invariant.ahead other (omega (arith, past)) low;
      least =
          let seats : length (seats_at c.resched_if.new.world cpu).events ≡ length (seated c.loop-cpu.world.hardware (stage_of c.resched_if.new.world) cpu) =
          seats-count c.loop-cpu.world.hardware c.resched_if.new.world cpu c.resched_if.ensures.rescheduled in
          least-next c.args.set c.loop-cpu.cpu c.loop-cpu.world c.resched_if.new.world c.touches.result c.args.tests.now c.loop-cpu.tests c.resched_if.new.tests (sym c.touches.ensures)
          (λ other low. ap (λ s. length s.events) (apart other (omega (arith, low, within)) (λ e. omega (arith, low, e))).seats)
          c.loop-cpu.invariant.least
          (subst (λ n. c.loop-cpu.tests + (if c.touches.result then n else 0) ≤ c.resched_if.new.tests) (sym seats) c.resched_if.ensures.least);
      most =
          let here : tried c.loop-cpu.world.hardware (stage_of c.loop-cpu.world) cpu ≡ tried hw (stage_of c.args.world.now) cpu =
          ap (λ h. tried h (stage_of c.loop-cpu.world) cpu) same
          ∙ same-tried hw (stage_of c.loop-cpu.world) (stage_of c.args.world.now) cpu (c.loop-cpu.invariant.ahead cpu (omega arith) within) in
          most-next c.args.set c.loop-cpu.cpu (tried hw (stage_of c.args.world.now)) c.touches.result _ c.args.tests.now c.loop-cpu.tests c.resched_if.new.tests (sym c.touches.ensures) here
          c.loop-cpu.invariant.most c.resched_if.ensures.most;
    }

pub returns-clause-counted : goal.returns-clause-counted
returns-clause-counted g c =
    counted-all c.args.world.now.hardware c.args.set c.loop-cpu.cpu (length c.args.world.now.quiet.running) (stage_of c.args.world.now) c.loop-cpu.world c.args.tests.now c.loop-cpu.tests
    (omega (arith, c.loop-cpu.auto.cpu-end, c.loop-cpu-test.false, c.cpus-cpu-end.ensures.number, ap (λ h. length h.cpu_pmus) c.pmus.ensures.pmus, c.pmus.ensures.kept.shape.running))
    c.loop-cpu.invariant.done c.loop-cpu.invariant.least c.loop-cpu.invariant.most
