use Rattle.std.proofs.Common.{rules}
use Rattle.fork_inherit.proofs.copying.inherit_if_wanted.Goals as goal

pub inherit_group-requires : goal.inherit_group-requires
inherit_group-requires c = search rules
