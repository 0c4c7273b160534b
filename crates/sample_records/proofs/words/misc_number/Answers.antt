use Rattle.std.proofs.Common.{rules}
use Rattle.sample_records.proofs.words.misc_number.Goals as goal

pub returns-in-Kernel : goal.returns-in-Kernel
returns-in-Kernel c = search rules
