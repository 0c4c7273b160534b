use Rattle.std.proofs.Common.{refl, subst}
use Rattle.perf_base.specs.Scripts.{Scripted}
use Rattle.perf_top.specs.{declared.ready.BadLook.{BadLook}, Outcome.{HasBadLook}}
use Rattle.perf_top.proofs.ready.Ready.replay.Goals as goal

pub returns-in-Err-clause-bad : goal.returns-in-Err-clause-bad
returns-in-Err-clause-bad c =
    let b : BadLook = c.in-Err.look in
    subst (λ (s : Scripted). HasBadLook s b.index b.ring b.last b.head b.given) c.self.view_is (c.in-Err.ensures.bad b refl)
