use Rattle.exit_fold.proofs.Alone.{is-alone}
use Rattle.exit_fold.proofs.exits.alone.Goals as goal

pub returns : goal.returns
returns c = is-alone c.new-set.result c.insert.new.self c.args.cpu c.new-set.ensures c.insert.ensures
