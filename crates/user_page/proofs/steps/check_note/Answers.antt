use Rattle.std.proofs.Common.{rules}
use Rattle.user_page.proofs.Stepping.{may_check}
use Rattle.user_page.proofs.steps.check_note.Goals as goal

pub load-requires : goal.load-requires
load-requires c = (search rules, search rules, may_check _ _ _ _ c.requires.writer)
