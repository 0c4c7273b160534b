use Rattle.std.proofs.{Common.{◌∙◌}, lemmas.List.{take_rest}}
use Rattle.attr_bytes.proofs.Numbers.{number_at-drop}
use Rattle.attr_bytes.proofs.fields.u64_at.Goals as goal

pub returns : goal.returns
returns c = c.read_u64.ensures ∙ number_at-drop c.args.offset 8 c.args.bytes.now _ (take_rest c.args.bytes.now c.args.offset)
