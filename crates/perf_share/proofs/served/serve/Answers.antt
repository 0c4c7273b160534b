use Rattle.std.{specs.Prelude.{ℕ, ◌<◌, List, length}, proofs.Common.{get_or, subst, sym}}
use Rattle.perf_base.specs.{declared.numbers.RingNo.{RingNo}, Scripts.{IsRingSize}}
use Rattle.perf_share.proofs.Serving.{first-served, made-accounts}
use Rattle.perf_share.proofs.served.serve.Goals as goal

pub make_rings-requires : goal.make_rings-requires
make_rings-requires c = λ k d low.
    subst (λ (rings : List (RingNo × ℕ)). IsRingSize (get_or rings k d).1) (sym c.rings.ensures.rings)
    (c.rings.ensures.sound.rings k d (subst (λ (rings : List (RingNo × ℕ)). k < length rings) c.rings.ensures.rings low)).1

pub new-requires-clause-ends : goal.new-requires-clause-ends
new-requires-clause-ends c = made-accounts c.args.script.now _ 0 c.in_ok-rings.rings c.in_ok-rings.outs _ c.rings.ensures.sound c.rings.ensures.rings c.in_ok-rings.ensures

pub returns : goal.returns
returns c =
    first-served c.args.script.now _ 0 c.in_ok-rings.rings c.in_ok-rings.outs _ c.in_ok-machine.machine c.rings.ensures.sound c.requires.covered c.requires.rings c.rings.ensures.rings
    c.in_ok-rings.ensures c.in_ok-machine.ensures.led c.in_ok-machine.ensures.outs
