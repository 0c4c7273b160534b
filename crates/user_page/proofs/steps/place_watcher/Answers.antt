use Rattle.std.proofs.Common.{rules}
use Rattle.user_page.proofs.Stepping.{places_watcher_so}
use Rattle.user_page.proofs.steps.place_watcher.Goals as goal

pub load-requires : goal.load-requires
load-requires c = (search rules, search rules, places_watcher_so _ _ _ c.requires.watcher)
