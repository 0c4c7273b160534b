use Rattle.stage_laws.proofs.OneByOneCopies.{copies_leave_originals}
use Rattle.stage_laws.proofs.laws.copies_leave_originals.Goals as goal

pub returns : goal.returns
returns c = copies_leave_originals
