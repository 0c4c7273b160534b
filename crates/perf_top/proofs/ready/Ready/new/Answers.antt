use Rattle.std.{specs.Prelude.{◌*◌, ◌≤◌, length}, proofs.Common.{subst, sym}}
use Rattle.perf_base.specs.{Scripts.{Scripted}, Weight.{weight}}
use Rattle.machine.specs.Readers.{AreFollowing}
use Rattle.perf_top.proofs.ready.Ready.new.Goals as goal

pub invariant_of-result : goal.invariant_of-result
invariant_of-result c =
    let h = c.in_ok-rings.ensures in (
      subst (λ (s : Scripted). length s.order ≤ 4194304) (sym h.script) c.requires.short,
      h.empty,
      h.together,
      subst (λ (s : Scripted). AreFollowing (9 * weight s) c.in_ok-rings.book.machine.outs c.in_ok-rings.ins) (sym h.script) h.following,
      h.unread,
    )
