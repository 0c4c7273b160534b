use Rattle.std.proofs.Common.{rules}
use Rattle.sample_records.proofs.reading.check_header.Goals as goal

pub returns-then-header-least : goal.returns-then-header-least
returns-then-header-least c = search rules
