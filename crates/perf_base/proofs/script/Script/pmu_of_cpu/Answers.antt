use Rattle.std.proofs.Common.{◌≡◌, true, ◌<◌, arith, below_more}
use Rattle.perf_base.{specs.Cpus.{HasCpu}, proofs.Places.{at_place, of_place}}
use Rattle.perf_base.proofs.script.Script.pmu_of_cpu.Goals as goal

pub loop-pmu-preserved : goal.loop-pmu-preserved
loop-pmu-preserved c =
    below_more _ _ c.loop-pmu.invariant
    (at_place (λ set. HasCpu set c.args.cpu → ⊥) c.args.self.now.pmus c.loop-pmu.pmu c.cpus_of.result c.cpus_of.ensures.set
    (λ has. let t : c.contains.result ≡ true = c.contains.ensures.1 has in absurd cc))

pub unreachable-requires : goal.unreachable-requires
unreachable-requires c =
    let some = c.requires.covered c.args.cpu c.requires.cpu in
    let before : some.0 < c.loop-pmu.pmu = omega (arith, some.2, c.pmus-pmu-end.ensures, c.loop-pmu-test.false) in
    of_place (λ set. HasCpu set c.args.cpu → ⊥) c.args.self.now.pmus some.0 some.1 some.2 some.3 (c.loop-pmu.invariant some.0 before) some.4
