use Rattle.std.proofs.Common.{subst, sym}
use Rattle.perf_base.{specs.Scripts.{IsScript, with_ring}, proofs.Kept.{IsScript-ring}}
use Rattle.perf_base.proofs.script.Script.add_ring.Goals as goal

pub invariant_of-self-2 : goal.invariant_of-self-2
invariant_of-self-2 c =
    let old = subst IsScript c.self.view_is c.self.invariant in
    let new = IsScript-ring c.args.self.now (c.args.ring, c.args.bytes) old c.requires.line c.requires.rises in
    rw c.in_ok-push.ensures.items (subst (λ s. IsScript (with_ring s (c.args.ring, c.args.bytes))) (sym c.self.view_is) new)
