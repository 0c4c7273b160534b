use Rattle.std.proofs.Common.{◌∙◌, arith, length-set}
use Rattle.perf_base.specs.declared.numbers.CpuNo.{CpuNo}
use Rattle.stage_spec.specs.Hardware.{pmu_with}
use Rattle.machine.proofs.Declared.{each-more, pmu-is, taken-is}
use Rattle.machine.proofs.counters.cpu_pmus.Goals as goal

pub loop-cpu-preserved : goal.loop-cpu-preserved
loop-cpu-preserved c =
    let cpu : CpuNo = record { 0 = c.loop-cpu.cpu } in
    record {
      end = c.loop-cpu.invariant.end;
      few = c.loop-cpu.invariant.few;
      long = length-set c.loop-cpu.pmus c.loop-cpu.cpu c.pmu_of_cpu.result ∙ c.loop-cpu.invariant.long;
      each = each-more (pmu_with c.args.script.now.pmus) c.loop-cpu.pmus c.loop-cpu.cpu c.pmu_of_cpu.result
          (omega (arith, c.loop-cpu-test.true, c.loop-cpu.invariant.end, c.loop-cpu.invariant.few, c.loop-cpu.invariant.long))
          (pmu-is c.args.script.now.pmus cpu c.pmu_of_cpu.result c.pmu_of_cpu.ensures.sound.pmus_apart c.pmu_of_cpu.ensures.within c.pmu_of_cpu.ensures.has)
          c.loop-cpu.invariant.each;
    }

pub returns : goal.returns
returns c = taken-is (pmu_with c.args.script.now.pmus) c.args.script.now.cpus c.loop-cpu.pmus (omega (arith, c.loop-cpu.invariant.few, c.loop-cpu.invariant.long))
    (λ cpu low. c.loop-cpu.invariant.each cpu (omega (arith, low, c.loop-cpu-test.false, c.loop-cpu.invariant.end)))
