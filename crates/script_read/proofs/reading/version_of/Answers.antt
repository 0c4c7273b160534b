use Rattle.std.proofs.Common.{sym, ◌∙◌}
use Rattle.script_read.proofs.Cutting.{version_one, version_two}
use Rattle.script_read.proofs.reading.version_of.Goals as goal

pub returns-then-starts_with : goal.returns-then-starts_with
returns-then-starts_with c = sym (version_two c.args.text.now (sym c.starts_with.ensures.value ∙ c.if-starts_with.true))

pub returns-else-starts_with : goal.returns-else-starts_with
returns-else-starts_with c = sym (version_one c.args.text.now (sym c.starts_with.ensures.value ∙ c.if-starts_with.false))
