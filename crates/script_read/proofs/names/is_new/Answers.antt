use Rattle.script_read.proofs.Called.{new_iff}
use Rattle.script_read.proofs.names.is_new.Goals as goal

pub returns : goal.returns
returns c = new_iff _ c.args.name c.number_of.result _ (rw c.as_bytes.ensures at c.number_of.ensures) c.is_none.ensures
