use Rattle.std.proofs.Common.{arith, ap, length, ◌∙◌}
use Rattle.report.{specs.Told.{cut_records}, proofs.SummedUp.{sum_one_more}}
use Rattle.report.proofs.records.count_written.Goals as goal
use Rattle.run_end.specs.Ended.{words_in}

pub loop-end-preserved : goal.loop-end-preserved
loop-end-preserved c = record {
  sum =
      sum_one_more (λ e. length (cut_records (words_in c.args.ended.now.ins e.ring))) c.ring_ends-end-items.result.now c.loop-end.end-index _ c.loop-end.count _ c.loop-end-test.true
      c.loop-end.invariant.sum (c.from-count.ensures ∙ (c.record_count.ensures ∙ ap (λ words. length (cut_records words)) c.words.ensures));
  few = omega (arith, c.loop-end.invariant.few);
}
