use Rattle.std.proofs.Common.{rules}
use Rattle.user_page.proofs.Stepping.{takes_so}
use Rattle.user_page.proofs.steps.take_look.Goals as goal

pub swap-found-requires : goal.swap-found-requires
swap-found-requires c = (search rules, search rules, takes_so _ _ _ _ c.requires.watcher)
