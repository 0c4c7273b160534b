-- The clock of a processor is part of all work.
use Rattle.std.{specs.Prelude.{ℕ, ◌≤◌, ◌==◌, Bool, true, false, if◌then◌else◌}, proofs.{Common.{arith}, lemmas.List.Sums.{sum_by-le-sum_by}}}
use Rattle.perf_base.specs.declared.numbers.CpuNo.{CpuNo}
use Rattle.perf_base.specs.declared.lines.CpuLine.TheVariants as cpu_line
use Rattle.stage_spec.specs.History.{Step, CpuStep, ToolStep, SeenStep}
use Rattle.stage_laws.{specs.Bounds.{most_of}, proofs.BoundsWhole.{all_small}}
use Rattle.ring_spec.specs.Sending.{length_by}
use Rattle.ring_laws.specs.Clocks.{ClockLaw, SmallClockLaw}

its_own : (b : Bool) (n : ℕ) → (if b then n else 0) ≤ n
its_own true n = omega arith
its_own false n = omega arith

length-le : (cpu : CpuNo) (x : Step) → length_by cpu x ≤ (most_of x).enabled
length-le cpu (CpuStep other (cpu_line.Switch to)) = omega arith
length-le cpu (CpuStep other (cpu_line.Work w)) = its_own (other.0 == cpu.0) w.length
length-le cpu (CpuStep other cpu_line.Tick) = omega arith
length-le cpu (CpuStep other (cpu_line.Fork child)) = omega arith
length-le cpu (CpuStep other cpu_line.Exit) = omega arith
length-le cpu (ToolStep line) = omega arith
length-le cpu (SeenStep ring place) = omega arith

pub clock_at_most : ClockLaw
clock_at_most steps cpu = sum_by-le-sum_by (length_by cpu) (λ x. (most_of x).enabled) steps (length-le cpu)

pub clock_small : SmallClockLaw
clock_small l steps cpu within few = omega (arith, few, clock_at_most steps cpu, all_small (λ x. (most_of x).enabled) (λ x k. k.enabled) l steps within)
