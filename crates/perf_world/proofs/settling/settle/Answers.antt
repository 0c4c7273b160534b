use Rattle.perf_world.proofs.Turning.{one-settled}
use Rattle.perf_world.proofs.settling.settle.Goals as goal

pub returns : goal.returns
returns c = one-settled c.args.processors.now c.args.events.now c.turn.new.self c.args.key c.way_of-way.result c.turn.ensures c.way_of-way.ensures.turned
