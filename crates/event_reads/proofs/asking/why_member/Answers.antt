use Rattle.std.proofs.Common.{rules}
use Rattle.event_reads.proofs.asking.why_member.Goals as goal

pub returns-in-Off : goal.returns-in-Off
returns-in-Off c = search rules
