use Rattle.std.proofs.Common.{rules}
use Rattle.group_lists.proofs.group_list.GroupList.new.Goals as goal

pub returns-clause-room : goal.returns-clause-room
returns-clause-room c = search rules
