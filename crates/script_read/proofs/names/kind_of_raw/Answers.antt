use Rattle.script_read.proofs.names.kind_of_raw.Goals as goal

pub returns : goal.returns
returns c = rw c.kinds.ensures.number at c.kind_of.ensures
