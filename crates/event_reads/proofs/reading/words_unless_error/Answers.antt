use Rattle.std.proofs.Common.{rules}
use Rattle.event_reads.proofs.reading.words_unless_error.Goals as goal

pub returns-in-Error : goal.returns-in-Error
returns-in-Error c = search rules
