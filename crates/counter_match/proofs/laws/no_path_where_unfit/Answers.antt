use Rattle.counter_match.proofs.Berge.{path_law}
use Rattle.counter_match.proofs.laws.no_path_where_unfit.Goals as goal

pub returns : goal.returns
returns c = path_law
