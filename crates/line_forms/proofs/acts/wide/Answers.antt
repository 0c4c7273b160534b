use Rattle.std.proofs.Common.{rules}
use Rattle.line_forms.proofs.acts.wide.Goals as goal

pub returns : goal.returns
returns c = search rules
