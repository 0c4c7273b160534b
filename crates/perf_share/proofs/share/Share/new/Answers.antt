use Rattle.perf_share.proofs.Deciding.{sharing}
use Rattle.perf_share.proofs.share.Share.new.Goals as goal

pub invariant_of-result : goal.invariant_of-result
invariant_of-result c =
    sharing c.in_ok-share.share c.of-limits.result c.args.script.now c.of-limits.ensures.sound c.requires.rings c.of-limits.ensures.cpus c.of-limits.ensures.kinds c.in_ok-share.ensures.key
