use Rattle.std.proofs.Common.{rules}
use Rattle.user_page.proofs.Stepping.{places_writer_so}
use Rattle.user_page.proofs.steps.place_writer.Goals as goal

pub load-requires : goal.load-requires
load-requires c = (search rules, search rules, places_writer_so _ _ _ c.requires.writer)
