use Rattle.perf_top.proofs.Made.{made-complete, no-bad-look}
use Rattle.perf_top.proofs.make.replay_made.Goals as goal

pub replay-requires : goal.replay-requires
replay-requires c = record { complete = made-complete c.args.rounds c.args.ready c.requires }

pub unreachable-requires : goal.unreachable-requires
unreachable-requires c = no-bad-look c.args.rounds _ c.args.ready _ _ _ _ c.requires c.in-Err.ensures.bad
