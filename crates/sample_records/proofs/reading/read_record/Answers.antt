use Rattle.std.proofs.Common.{rules}
use Rattle.sample_records.proofs.reading.read_record.Goals as goal

pub take_record-requires-clause-first : goal.take_record-requires-clause-first
take_record-requires-clause-first c = search rules
