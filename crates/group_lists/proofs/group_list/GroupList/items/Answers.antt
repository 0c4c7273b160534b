use Rattle.std.proofs.Common.{rules}
use Rattle.group_lists.proofs.group_list.GroupList.items.Goals as goal

pub returns-clause-leaders : goal.returns-clause-leaders
returns-clause-leaders c = search rules
