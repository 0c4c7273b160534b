use Rattle.std.proofs.Common.{rules}
use Rattle.sample_records.proofs.asking.fields_of.Goals as goal

pub returns-in-Ok : goal.returns-in-Ok
returns-in-Ok c = search rules
