use Rattle.std.{specs.Prelude.{ℕ, List}, proofs.{Common.{get_or, refl, subst}, lemmas.List.{get_or_default}}}
use Rattle.perf_base.specs.{declared.numbers.RingNo.{RingNo}, Scripts.{HasRing}}
use Rattle.machine.proofs.Unlawful.{ring-there}
use Rattle.perf_book.proofs.ending.push_ends.Goals as goal

pub ring_end-requires : goal.ring_end-requires
ring_end-requires c =
    let items : List (RingNo × ℕ) = c.rings-ring-items.result.now in
    let d : RingNo × ℕ = (record { 0 = 0 }, 0) in
    let r : RingNo × ℕ = get_or items c.loop-ring.ring-index d in
    let has : HasRing items r.0 = (c.loop-ring.ring-index, r, c.loop-ring-test.true, get_or_default items c.loop-ring.ring-index r d c.loop-ring-test.true, refl) in
    ring-there c.args.script.now c.args.machine.now r.0 c.requires.script (subst (λ rings. HasRing rings r.0) c.rings-ring-items.ensures.rings has)
