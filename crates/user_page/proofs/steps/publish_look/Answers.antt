use Rattle.std.proofs.Common.{rules}
use Rattle.user_page.proofs.steps.publish_look.Goals as goal

pub returns-clause-view : goal.returns-clause-view
returns-clause-view c = search rules
