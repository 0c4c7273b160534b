use Rattle.std.proofs.Common.{rules}
use Rattle.attr_bytes.proofs.reading.stated_size.Goals as goal

pub returns-in-0 : goal.returns-in-0
returns-in-0 c = search rules
