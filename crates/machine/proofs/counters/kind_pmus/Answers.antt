use Rattle.std.proofs.Common.{◌∙◌, arith, length-set, get_or}
use Rattle.machine.proofs.Declared.{each-more, entry-is, mapped-is, no_kind}
use Rattle.machine.proofs.counters.kind_pmus.Goals as goal

pub loop-kind-preserved : goal.loop-kind-preserved
loop-kind-preserved c = record {
  end = c.loop-kind.invariant.end;
  few = c.loop-kind.invariant.few;
  long = length-set c.loop-kind.pmus c.loop-kind.kind c.pmu_of_kind.result ∙ c.loop-kind.invariant.long;
  each = each-more (λ i. (get_or c.args.script.now.kinds i no_kind).pmu) c.loop-kind.pmus c.loop-kind.kind c.pmu_of_kind.result
      (omega (arith, c.loop-kind-test.true, c.loop-kind.invariant.end, c.loop-kind.invariant.few, c.loop-kind.invariant.long))
      (entry-is (λ k. k.pmu) c.args.script.now.kinds c.loop-kind.kind no_kind c.pmu_of_kind.result (omega (arith, c.loop-kind-test.true, c.loop-kind.invariant.end)) c.pmu_of_kind.ensures.number)
      c.loop-kind.invariant.each;
}

pub returns : goal.returns
returns c = mapped-is (λ k. k.pmu) c.args.script.now.kinds no_kind c.loop-kind.pmus (omega (arith, c.loop-kind.invariant.few, c.loop-kind.invariant.long))
    (λ i low. c.loop-kind.invariant.each i (omega (arith, low, c.loop-kind-test.false, c.loop-kind.invariant.end)))
