use Rattle.std.proofs.Common.{rules}
use Rattle.user_page.proofs.Stepping.{publishes_so}
use Rattle.user_page.proofs.steps.give_place.Goals as goal

pub swap-requires : goal.swap-requires
swap-requires c = (search rules, search rules, publishes_so _ _ _ _ c.requires.writer c.requires.rises)
