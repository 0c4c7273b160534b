use Rattle.std.proofs.Common.{rules}
use Rattle.sample_records.proofs.fields.sample_record.Goals as goal

pub returns-clause-says : goal.returns-clause-says
returns-clause-says c = search rules
