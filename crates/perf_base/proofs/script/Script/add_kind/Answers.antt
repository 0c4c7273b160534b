use Rattle.std.proofs.Common.{subst, sym}
use Rattle.perf_base.{specs.Scripts.{IsScript, with_kind}, proofs.Kept.{IsScript-kind}}
use Rattle.perf_base.proofs.script.Script.add_kind.Goals as goal

pub invariant_of-self-2 : goal.invariant_of-self-2
invariant_of-self-2 c =
    let old = subst IsScript c.self.view_is c.self.invariant in
    let new = IsScript-kind c.args.self.now (record { name = c.args.name; pmu = c.args.pmu; mask = c.args.mask }) old c.requires.line c.requires.once c.requires.few in
    rw c.in_ok-push.ensures.items (subst (λ s. IsScript (with_kind s (record { name = c.args.name; pmu = c.args.pmu; mask = c.args.mask }))) (sym c.self.view_is) new)
