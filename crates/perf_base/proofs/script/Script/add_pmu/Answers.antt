use Rattle.std.proofs.Common.{subst, sym}
use Rattle.perf_base.{specs.Scripts.{IsScript, with_pmu}, proofs.Kept.{IsScript-pmu}}
use Rattle.perf_base.proofs.script.Script.add_pmu.Goals as goal

pub invariant_of-self-2 : goal.invariant_of-self-2
invariant_of-self-2 c =
    let old = subst IsScript c.self.view_is c.self.invariant in
    let new = IsScript-pmu c.args.self.now (record { counters = c.args.counters; cpus = record { 0 = c.args.cpus } }) old c.requires.line c.requires.apart c.requires.few in
    rw c.in_ok-push.ensures.items (subst (λ s. IsScript (with_pmu s (record { counters = c.args.counters; cpus = record { 0 = c.args.cpus } }))) (sym c.self.view_is) new)
