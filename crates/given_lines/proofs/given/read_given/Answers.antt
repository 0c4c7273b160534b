use Rattle.line_forms.specs.Forms.{version_of}
use Rattle.given_lines.proofs.Lines.{only_line, only_reason}
use Rattle.given_lines.proofs.given.read_given.Goals as goal

pub returns-clause-every : goal.returns-clause-every
returns-clause-every c = only_line c.args.script.now (version_of c.args.version) c.args.line.now c.read.result c.read.ensures.ok c.read.ensures.bad

pub returns-clause-refused : goal.returns-clause-refused
returns-clause-refused c = only_reason c.args.script.now (version_of c.args.version) c.args.line.now c.read.result c.read.ensures.ok c.read.ensures.bad
