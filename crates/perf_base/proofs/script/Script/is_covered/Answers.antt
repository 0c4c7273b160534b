use Rattle.std.{proofs.Common.{arith, below_more}, specs.Prelude.{IsTrue}}
use Rattle.perf_base.proofs.script.Script.is_covered.Goals as goal

pub loop-cpu-preserved : goal.loop-cpu-preserved
loop-cpu-preserved c = below_more _ _ c.loop-cpu.invariant (let t : IsTrue c.has_pmu.result = cc in c.has_pmu.ensures.0 t)

pub returns-then-not-has_pmu-clause-covered : goal.returns-then-not-has_pmu-clause-covered
returns-then-not-has_pmu-clause-covered c =
    (λ t. absurd cc, λ h. let t = c.has_pmu.ensures.1 (h (record { 0 = c.loop-cpu.cpu }) (omega (arith, c.loop-cpu-test.true, c.cpus-cpu-end.ensures.number))) in absurd cc)
