use Rattle.std.proofs.Common.{rules}
use Rattle.script_read.proofs.adding.check_room.Goals as goal

pub returns-else-line_count-lt-MOST_LINES : goal.returns-else-line_count-lt-MOST_LINES
returns-else-line_count-lt-MOST_LINES c = search rules
