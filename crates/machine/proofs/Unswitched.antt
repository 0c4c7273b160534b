-- A switch to what already runs.
use Rattle.std.specs.Prelude.{◌≡◌, ℕ, ◌<◌, true, [], Option, None, slice_index_or}
use Rattle.std.proofs.Common.{arith, refl, sym, ap, ◌∙◌}
use Rattle.perf_base.specs.declared.{numbers.{CpuNo.{CpuNo}, Key.{Key}, TaskNo.{TaskNo}}}
use Rattle.perf_base.specs.declared.lines.CpuLine.TheVariants as line
use Rattle.perf_base.specs.declared.reply.Reply.TheVariants as reply
use Rattle.stage_spec.specs.{History.{CpuStep, stage_step}, Settle.{settle_all}}
use Rattle.stage_spec.specs.{Shares.{share, no_sums}, Stage.{task_on}}
use Rattle.stage_spec.{specs.Switching.{is_running, switch_refusal, switched}, proofs.Recurrence.{plus-none}}
use Rattle.world_spec.specs.{Kept.{IsKept}, StageOf.{stage_of}, Value.{World, is_live, instance_at, account_at}, Shares.{with_share}}
use Rattle.world_spec.{specs.Stepping.{HasStepped, HasItsShare}, proofs.Stepping.{stepped, instance-found}}
use Rattle.machine.{specs.Stepped.{IsReady}, proofs.{Asking.{settled-below}, Refused.{accepted-cpu}, TaskChange.{none-given}}}
use Rattle.machine.specs.Stepped as stepped_line
use Rattle.work_account.proofs.Accounts.{nothing-lost}

-- What is told of a switch to what already runs.
pub record Still (w : World) (cpu : CpuNo) (to : Option TaskNo) : Type 0 where
  pub kept : IsKept w.hardware w
  pub ready : IsReady w
  pub accepted : switch_refusal (stage_of w) cpu to ≡ None
  pub runs : is_running (task_on (stage_of w) cpu) to ≡ true

still-stage : (w : World) (cpu : CpuNo) (to : Option TaskNo) → Still w cpu to → stage_of w ≡ stage_step w.hardware (stage_of w) (CpuStep cpu (line.Switch to))
unfolding stage_step settle_all switched
still-stage w cpu to c = grind (arith, settled-below)

still-gives : (w : World) (cpu : CpuNo) (to : Option TaskNo) (id : ℕ) → Still w cpu to → no_sums ≡ share w.hardware (stage_of w) (CpuStep cpu (line.Switch to)) id
unfolding share
still-gives w cpu to id c = grind arith

still-share : (w : World) (cpu : CpuNo) (to : Option TaskNo) (k : Key) → Still w cpu to → is_live w k ≡ true → HasItsShare w.hardware w w (CpuStep cpu (line.Switch to)) k
still-share w cpu to k c live =
    let id : ℕ = (instance_at w k).id in
    let account : account_at w k ≡ with_share (instance_at w k) (share w.hardware (stage_of w) (CpuStep cpu (line.Switch to)) id) (account_at w k) =
    (none-given w cpu).accounts k live ∙ ap (λ g. with_share (instance_at w k) g (account_at w k)) (still-gives w cpu to id c) in
    grind (arith, id, account, instance-found)

still-stepped : (w : World) (cpu : CpuNo) (to : Option TaskNo) → Still w cpu to → HasStepped w.hardware w w (CpuStep cpu (line.Switch to))
still-stepped w cpu to c = record {
  stage = still-stage w cpu to c;
  drawn = omega arith;
  old = λ k live before. still-share w cpu to k c live;
  new = λ k live past. let low : (instance_at w k).id < w.quiet.next_id = (c.kept.numbered.drawn k live).1 in absurd (omega (arith, low, past));
  slots = λ e current. current;
  folded = λ e current. (
    [],
    record {
      leaving = refl;
      live = λ k some. absurd (omega (arith, some));
      sums = sym (plus-none (slice_index_or w.folded e.0 no_sums));
    },
  );
  lost = λ e. refl;
  clock = λ own. omega arith;
}

pub unswitched-still : (w : World) (cpu : CpuNo) (to : Option TaskNo) → Still w cpu to → stepped_line.IsDone (CpuStep cpu (line.Switch to)) w w reply.Ok
unswitched-still w cpu to c by agrees = record {
  answer = accepted-cpu w by cpu (line.Switch to) c.accepted agrees;
  agrees = stepped w.hardware w w by (CpuStep cpu (line.Switch to)) c.kept c.kept agrees (still-stepped w cpu to c) (nothing-lost cpu (line.Switch to) by.rings);
}
