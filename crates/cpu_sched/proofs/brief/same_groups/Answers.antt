use Rattle.std.proofs.{Common.{arith, ◌∙◌, ap, sym}, lemmas.Bool.{false≢true}}
use Rattle.cpu_sched.{specs.Briefs.{seen}, proofs.Same.{at-place}}
use Rattle.cpu_sched.proofs.brief.same_groups.Goals as goal

pub returns-then-not-same_group : goal.returns-then-not-same_group
returns-then-not-same_group c = (
  λ h. absurd (false≢true h),
  λ e. absurd (false≢true (sym c.if-not-same_group.true ∙ c.same_group.ensures.1 (ap seen c.index-one-place.is
      ∙ (at-place c.args.one.now c.args.other.now c.loop-place.place c.index-one-place.result c.index-other-place.result c.loop-place-test.true
      (omega (arith, c.loop-place-test.true, c.if-one-other.false)) e ∙ sym (ap seen c.index-other-place.is))))),
)
