use Rattle.std.{specs.Prelude.{ℕ, ◌<◌, List, [], length}, proofs.Common.{get_or, subst, sym}}
use Rattle.perf_base.specs.{declared.numbers.RingNo.{RingNo}, Scripts.{IsCovered, IsRingSize, Scripted}}
use Rattle.sample_ring.specs.RingLists.{AreNew}
use Rattle.work_account.specs.Ends.{AreTogether}
use Rattle.machine.{specs.Leading.{LeadTo}, proofs.New.{new-accounts, new-together}}
use Rattle.top_tests.proofs.LateOpens.{covered}
use Rattle.top_tests.proofs.late_open_tests.begin.Goals as goal

pub make_rings-requires : goal.make_rings-requires
make_rings-requires c =
    subst (λ (rings : List (RingNo × ℕ)). (k : ℕ) (d : RingNo × ℕ) → k < length rings → IsRingSize (get_or rings k d).1) (sym c.rings.ensures.rings)
    (λ k d low. (c.rings.ensures.sound.rings k d low).1)

pub new-requires-clause-covered : goal.new-requires-clause-covered
new-requires-clause-covered c = subst IsCovered (sym c.requires) covered

pub new-requires-clause-ends : goal.new-requires-clause-ends
new-requires-clause-ends c =
    new-accounts c.args.script.now 0 c.in_ok-rings.rings c.in_ok-rings.outs c.in_ok-rings._ins c.rings.ensures.sound
    (subst (λ sizes. AreNew sizes 0 c.in_ok-rings.rings c.in_ok-rings.outs c.in_ok-rings._ins) c.rings.ensures.rings c.in_ok-rings.ensures)

pub returns-clause-led : goal.returns-clause-led
returns-clause-led c = subst (λ (s : Scripted). LeadTo s [] c.in_ok-machine.machine) c.requires c.in_ok-machine.ensures.led

pub returns-clause-together : goal.returns-clause-together
returns-clause-together c =
    subst (AreTogether c.in_ok-rings.rings) (sym c.in_ok-machine.ensures.outs)
    (new-together c.args.script.now 0 c.in_ok-rings.rings c.in_ok-rings.outs c.in_ok-rings._ins
    (subst (λ sizes. AreNew sizes 0 c.in_ok-rings.rings c.in_ok-rings.outs c.in_ok-rings._ins) c.rings.ensures.rings c.in_ok-rings.ensures))
