-- The processor that a task is on is the one that was found.
use Rattle.std.{specs.Prelude.{◌≡◌, ◌+◌, ◌==◌, not, Option, Some, None, IfSome, IfNone}, proofs.Common.{arith, refl, sym, ap}}
use Rattle.perf_base.specs.declared.numbers.{CpuNo.{CpuNo}, TaskNo.{TaskNo}}
use Rattle.stage_spec.{specs.{Refusals.{holds_of}, Stage.{Stage, cpu_of, task_on}}, proofs.Present.{find-passes}}
use Rattle.stage_laws.{specs.Sound.{AreRunning}, proofs.Tasks.{free-task, is_task-some}}

cpu-by : (s : Stage) (task : TaskNo) (found r : Option CpuNo) → cpu_of s task ≡ found → AreRunning s
    → IfSome r (λ cpu. task_on s cpu ≡ Some task) → IfNone r ((cpu : CpuNo) → task_on s cpu ≡ Some task → ⊥) → found ≡ r
cpu-by s task None None is h there nowhere = refl
cpu-by s task None (Some cpu) is h there nowhere =
    let other : CpuNo = record { 0 = cpu.0 + 1 } in
    let same : cpu.0 ≡ other.0 = free-task s other cpu task h (ap (holds_of (λ c. not (c.0 == other.0))) is) there in
    absurd (omega (arith, same))
cpu-by s task (Some c) None is h there nowhere = grind (arith, is_task-some, find-passes)
cpu-by s task (Some c) (Some cpu) is h there nowhere = grind (arith, is_task-some, find-passes)

pub cpu-is : (s : Stage) (task : TaskNo) (r : Option CpuNo) → AreRunning s
    → IfSome r (λ cpu. task_on s cpu ≡ Some task) → IfNone r ((cpu : CpuNo) → task_on s cpu ≡ Some task → ⊥) → r ≡ cpu_of s task
cpu-is s task r h there nowhere = sym (cpu-by s task (cpu_of s task) r refl h there nowhere)
