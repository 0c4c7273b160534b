use Rattle.std.proofs.Common.{subst, sym}
use Rattle.perf_base.{specs.Scripts.{IsScript, with_reader}, proofs.Kept.{IsScript-reader}}
use Rattle.perf_base.proofs.script.Script.add_reader.Goals as goal

pub invariant_of-self-2 : goal.invariant_of-self-2
invariant_of-self-2 c =
    let old = subst IsScript c.self.view_is c.self.invariant in
    let new = IsScript-reader c.args.self.now c.args.line old c.requires.line c.requires.rises in
    rw c.in_ok-push.ensures.items (subst (λ s. IsScript (with_reader s c.args.line)) (sym c.self.view_is) new)
