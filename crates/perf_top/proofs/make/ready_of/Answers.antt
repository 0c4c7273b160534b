use Rattle.perf_top.proofs.Made.{made-covered, made-light, made-short}
use Rattle.perf_top.proofs.make.ready_of.Goals as goal

pub new-requires-clause-covered : goal.new-requires-clause-covered
new-requires-clause-covered c = made-covered c.args.rounds c.args.script c.requires.made

pub new-requires-clause-light : goal.new-requires-clause-light
new-requires-clause-light c = made-light c.args.rounds c.args.script c.requires.few c.requires.made

pub new-requires-clause-short : goal.new-requires-clause-short
new-requires-clause-short c = made-short c.args.rounds c.args.script c.requires.few c.requires.made
