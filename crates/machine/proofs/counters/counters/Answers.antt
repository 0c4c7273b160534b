use Rattle.std.proofs.Common.{◌∙◌, arith, length-set, get_or}
use Rattle.machine.proofs.Declared.{each-more, rest-more, entry-is, counters-are, no_pmu}
use Rattle.machine.proofs.counters.counters.Goals as goal

pub loop-pmu-preserved : goal.loop-pmu-preserved
loop-pmu-preserved c = record {
  end = c.loop-pmu.invariant.end;
  few = c.loop-pmu.invariant.few;
  long = length-set c.loop-pmu.counters c.loop-pmu.pmu c.counters.result ∙ c.loop-pmu.invariant.long;
  each = each-more (λ i. (get_or c.args.script.now.pmus i no_pmu).counters) c.loop-pmu.counters c.loop-pmu.pmu c.counters.result
      (omega (arith, c.loop-pmu-test.true, c.loop-pmu.invariant.end, c.loop-pmu.invariant.few, c.loop-pmu.invariant.long))
      (entry-is (λ p. p.counters) c.args.script.now.pmus c.loop-pmu.pmu no_pmu c.counters.result (omega (arith, c.loop-pmu-test.true, c.loop-pmu.invariant.end)) c.counters.ensures.number)
      c.loop-pmu.invariant.each;
  rest = rest-more c.loop-pmu.counters c.loop-pmu.pmu c.counters.result c.loop-pmu.invariant.rest;
}

pub returns : goal.returns
returns c = counters-are c.args.script.now.pmus c.loop-pmu.counters c.loop-pmu.invariant.long c.loop-pmu.invariant.few
    (λ i low. c.loop-pmu.invariant.each i (omega (arith, low, c.loop-pmu-test.false, c.loop-pmu.invariant.end)))
    (λ i past. c.loop-pmu.invariant.rest i (omega (arith, past, c.loop-pmu-test.false, c.loop-pmu.invariant.end)))
