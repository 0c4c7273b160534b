use Rattle.std.proofs.Common.{rules}
use Rattle.group_lists.proofs.Leaders.{without-lacks}
use Rattle.group_lists.proofs.group_list.GroupList.move_last.Goals as goal

pub push-requires-clause-new : goal.push-requires-clause-new
push-requires-clause-new c = rw c.remove.ensures.leaders (without-lacks _ _)

pub returns-clause-leaders : goal.returns-clause-leaders
returns-clause-leaders c = search rules
