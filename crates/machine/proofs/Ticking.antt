-- A tick.
use Rattle.std.{specs.Prelude.{◌≡◌, ◌<◌, length, Option, Some, None}, proofs.Common.{arith, refl, sym, ap, subst, ◌∙◌}}
use Rattle.perf_base.specs.declared.numbers.{CpuNo.{CpuNo}, TaskNo.{TaskNo}}
use Rattle.perf_base.specs.declared.lines.CpuLine.TheVariants as line
use Rattle.perf_base.specs.declared.reply.Reply.TheVariants as reply
use Rattle.perf_base.specs.declared.standing.Context.TheVariants as context
use Rattle.stage_spec.specs.{Hardware.{Hardware}, History.{CpuStep, stage_step}, Rotation.{rotated}, Settle.{settle, settle_each}, Stage.{task_on}}
use Rattle.stage_laws.{specs.Narrowing.{IsNarrow}, proofs.Narrow.{narrows}}
use Rattle.world_spec.specs.{Kept.{IsKept}, Rescheduled.{AreUntouchedBut, IsRescheduled}, StageOf.{stage_of}}
use Rattle.world_spec.{specs.Value.{World}, proofs.{Lines.{KeepsAll}, Stepping.{stepped}}}
use Rattle.cpu_sched.specs.Resched.{StaysBut}
use Rattle.task_moves.specs.Turning.{turn_in, turn_of_task, turned_world}
use Rattle.machine.{specs.Stepped.{limits_in, IsReady}, proofs.Keeping.{kept-stepped, kept-ready, one-below, rescheduled-but}}
use Rattle.machine.proofs.Settling.{one-settled}
use Rattle.machine.specs.Stepped as stepped_line
use Rattle.work_account.proofs.Accounts.{nothing-lost}

-- What is told of a tick: the worlds before it, after the groups took turns, and after the processor was rescheduled.
pub record TickCourse (w v x : World) (cpu : CpuNo) : Type 0 where
  pub kept : IsKept w.hardware w
  pub ready : IsReady w
  pub low : cpu.0 < length w.quiet.running
  pub world : v ≡ turned_world cpu w
  pub stage : stage_of v ≡ rotated w.hardware cpu (stage_of w)
  pub settled : stage_of x ≡ settle v.hardware cpu (stage_of v)
  pub rest : StaysBut cpu v x
  pub kept_then : IsKept x.hardware x

-- turning changes lists of leaders alone
record OnlyLists (w v : World) : Type 0 where
  is : v ≡ record w { contexts = v.contexts }

task-lists : (cpu : CpuNo) (o : Option TaskNo) (w : World) → OnlyLists w (turn_of_task cpu o (turn_in cpu (context.Processor cpu) w))
task-lists cpu None w = record { is = refl }
task-lists cpu (Some task) w = record { is = refl }

pub only-lists : (cpu : CpuNo) (w v : World) → v ≡ turned_world cpu w → v ≡ record w { contexts = v.contexts }
only-lists cpu w v is = (subst (OnlyLists w) (sym is) (task-lists cpu (task_on (stage_of w) cpu) w)).is

tick-keeps : (w v x : World) (cpu : CpuNo) → TickCourse w v x cpu → KeepsAll w x
tick-keeps w v x cpu c = grind (arith, only-lists)

tick-stage : (w v x : World) (cpu : CpuNo) → TickCourse w v x cpu → stage_of x ≡ stage_step w.hardware (stage_of w) (CpuStep cpu line.Tick)
tick-stage w v x cpu c =
    let hw : Hardware = w.hardware in
    let lists : v ≡ record w { contexts = v.contexts } = only-lists cpu w v c.world in
    let narrow : IsNarrow hw (stage_of w) (CpuStep cpu line.Tick) =
    narrows (limits_in w) hw (stage_of w) (CpuStep cpu line.Tick) c.ready.machine (c.low, tt) c.ready.sound (λ own low. (c.ready.rescheduled own low).settled) in
    c.settled
    ∙ ((λ i. settle ((lists i).hardware) cpu (c.stage i))
    ∙ (sym (one-settled hw cpu (rotated hw cpu (stage_of w)))
    ∙ (ap (λ cs. settle_each hw cs (rotated hw cpu (stage_of w))) (sym (one-below cpu (length w.quiet.running) c.low)) ∙ sym narrow.stage)))

pub tick-done : (w v x : World) (cpu : CpuNo) → TickCourse w v x cpu → stepped_line.IsDone (CpuStep cpu line.Tick) w x reply.Ok
tick-done w v x cpu c by agrees =
    let keeps : KeepsAll w x = tick-keeps w v x cpu c in
    record {
      answer = refl;
      agrees = stepped w.hardware w x by (CpuStep cpu line.Tick) c.kept (subst (λ (hw : Hardware). IsKept hw x) keeps.hardware c.kept_then) agrees
          (kept-stepped w x (CpuStep cpu line.Tick) c.kept c.kept_then keeps refl (λ e. refl) (λ own. refl) (tick-stage w v x cpu c)) (nothing-lost cpu line.Tick by.rings);
    }

pub tick-ready : (w v x : World) (cpu : CpuNo) → TickCourse w v x cpu → IsRescheduled v.hardware x cpu → AreUntouchedBut cpu w v → AreUntouchedBut cpu v x → IsReady x
tick-ready w v x cpu c own left others =
    let lists : v ≡ record w { contexts = v.contexts } = only-lists cpu w v c.world in
    let keeps : KeepsAll w x = tick-keeps w v x cpu c in
    kept-ready w x (CpuStep cpu line.Tick) c.ready (c.low, tt) keeps (tick-stage w v x cpu c)
    (rescheduled-but w v x cpu (ap (λ (y : World). y.hardware) lists) (ap (λ (y : World). length y.quiet.running) lists) keeps.running c.ready.rescheduled own left others)
