use Rattle.perf_top.proofs.Made.{summed-up}
use Rattle.perf_top.proofs.make.sum_up.Goals as goal

pub returns : goal.returns
returns c =
    summed-up c.args.rounds c.replay_made-ended.result c.summary_of.result c.replay_made-ended.ensures.ended c.replay_made-ended.ensures.script c.replay_made-ended.ensures.order c.summary_of.ensures.rounds
    c.summary_of.ensures.totals
