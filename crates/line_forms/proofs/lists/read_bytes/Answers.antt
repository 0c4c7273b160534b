use Rattle.std.proofs.Common.{ap, ◌∙◌}
use Rattle.line_forms.{specs.Lists.{bytes_in}, proofs.Sequences.{bytes_in_room, bytes-again}}
use Rattle.line_forms.proofs.lists.read_bytes.Goals as goal

pub returns-clause-some : goal.returns-clause-some
returns-clause-some c = bytes_in_room c.put_bytes.result c.put_bytes.new.room c.args.text.now c.put_bytes.ensures.bytes

pub returns-clause-every : goal.returns-clause-every
returns-clause-every c = λ bytes h e. c.put_bytes.ensures.bytes ∙ (ap bytes_in e ∙ bytes-again bytes h)
