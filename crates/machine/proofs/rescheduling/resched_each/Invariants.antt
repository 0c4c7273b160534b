use Rattle.std.{proofs.Common.{◌≡◌, ◌+◌, ◌*◌, ◌<◌, ◌≤◌, length, true}, specs.{List.{sum_by}, Prelude.{filter}}}
use Rattle.perf_base.specs.declared.numbers.CpuNo.{CpuNo}
use Rattle.stage_spec.specs.Settle.{settle_each}
use Rattle.stage_laws.specs.Standings.{briefs}
use Rattle.world_spec.specs.{Rescheduled.{IsRescheduled}, StageOf.{stage_of}, Value.{seats_at}}
use Rattle.cpu_sched.specs.Tried.{tried}
use Rattle.machine.{specs.Settled.{OnlyRescheduled, is_in}, proofs.Settling.{cpus_below}}
use Rattle.machine.proofs.rescheduling.resched_each.Given as goal

abbrev pub invariant-loop-cpu : goal.invariant-loop-cpu
invariant-loop-cpu g l = record {
  stage : stage_of l.world ≡ settle_each l.fn.world.hardware (filter (is_in l.set) (cpus_below l.cpu)) (stage_of l.fn.world);
  rest : OnlyRescheduled l.fn.world l.world;
  done : (cpu : CpuNo) → cpu.0 < l.cpu → IsRescheduled l.fn.world.hardware l.world cpu;
  left : (cpu : CpuNo) → cpu.0 < length l.fn.world.quiet.running → (is_in l.set cpu ≡ true → ⊥) → IsRescheduled l.fn.world.hardware l.world cpu;
  ahead : (cpu : CpuNo) → l.cpu ≤ cpu.0 → cpu.0 < length l.fn.world.quiet.running → briefs l.fn.world.hardware (stage_of l.world) cpu ≡ briefs l.fn.world.hardware (stage_of l.fn.world) cpu;
  least : l.fn.tests + sum_by (λ cpu. length (seats_at l.world cpu).events) (filter (is_in l.set) (cpus_below l.cpu)) ≤ l.tests;
  most : l.tests ≤ l.fn.tests + 272 * sum_by (tried l.fn.world.hardware (stage_of l.fn.world)) (filter (is_in l.set) (cpus_below l.cpu));
}
