use Rattle.std.{specs.Prelude.{ℕ, ◌*◌, ◌<◌, ◌≤◌, List, length}, proofs.Common.{arith, get_or, subst, sym}}
use Rattle.perf_base.specs.{declared.numbers.RingNo.{RingNo}, Scripts.{IsRingSize, Scripted}, Weight.{weight}}
use Rattle.sample_ring.specs.RingLists.{AreNew, OutList}
use Rattle.work_account.specs.Ends.{AreTogether}
use Rattle.machine.{specs.Readers.{AreReaders}, proofs.{Behind.{following-readers}, New.{new-accounts, new-following, new-together}}}
use Rattle.top_tests.proofs.processor_tests.book_of.Goals as goal

pub make_rings-requires : goal.make_rings-requires
make_rings-requires c = λ k d low.
    subst (λ (rings : List (RingNo × ℕ)). IsRingSize (get_or rings k d).1) (sym c.rings.ensures.rings)
    (c.rings.ensures.sound.rings k d (subst (λ (rings : List (RingNo × ℕ)). k < length rings) c.rings.ensures.rings low)).1

pub new-requires-clause-ends : goal.new-requires-clause-ends
new-requires-clause-ends c =
    new-accounts c.args.script (9 * c.weight.result) c.in_ok-rings.rings c.in_ok-rings.outs c.in_ok-rings.ins c.rings.ensures.sound
    (subst (λ sizes. AreNew sizes (9 * c.weight.result) c.in_ok-rings.rings c.in_ok-rings.outs c.in_ok-rings.ins) c.rings.ensures.rings c.in_ok-rings.ensures)

pub returns-clause-together : goal.returns-clause-together
returns-clause-together c =
    subst (AreTogether c.in_ok-rings.rings) (sym c.in_ok-book.ensures.outs)
    (new-together c.args.script (9 * c.weight.result) c.in_ok-rings.rings c.in_ok-rings.outs c.in_ok-rings.ins
    (subst (λ sizes. AreNew sizes (9 * c.weight.result) c.in_ok-rings.rings c.in_ok-rings.outs c.in_ok-rings.ins) c.rings.ensures.rings c.in_ok-rings.ensures))

pub returns-clause-readers : goal.returns-clause-readers
returns-clause-readers c =
    let words : 9 * weight c.args.script ≤ 9 * c.weight.result = omega (arith, c.weight.ensures) in
    let following = new-following c.args.script (9 * weight c.args.script) (9 * c.weight.result) c.in_ok-rings.rings c.in_ok-rings.outs c.in_ok-rings.ins words
    (subst (λ sizes. AreNew sizes (9 * c.weight.result) c.in_ok-rings.rings c.in_ok-rings.outs c.in_ok-rings.ins) c.rings.ensures.rings c.in_ok-rings.ensures) in
    let outs = c.in_ok-book.ensures.outs in
    let script = c.in_ok-book.ensures.script in
    subst (λ (p : Scripted × OutList). AreReaders (9 * weight p.0) p.1 c.in_ok-rings.ins) (λ i. (sym script i, sym outs i))
    (following-readers (9 * weight c.args.script) c.in_ok-rings.outs c.in_ok-rings.ins following)
