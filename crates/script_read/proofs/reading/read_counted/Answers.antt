use Rattle.std.proofs.Common.{◌≡◌, length}
use Rattle.script_spec.specs.Lines.{lines_of}
use Rattle.script_read.specs.declared.reading.Counted.{Counted}
use Rattle.script_read.proofs.{Ended.{read_covered, read_light}, OneAnswer.{only_script, only_refusal}}
use Rattle.script_read.proofs.reading.read_counted.Goals as goal

pub returns-clause-covered : goal.returns-clause-covered
returns-clause-covered c = read_covered (λ (x : Counted). x.script) (λ x. x.lines ≡ length (lines_of c.args.bytes.now)) c.args.bytes.now c.read.result c.read.ensures.ok

pub returns-clause-light : goal.returns-clause-light
returns-clause-light c = read_light (λ (x : Counted). x.script) (λ x. x.lines ≡ length (lines_of c.args.bytes.now)) c.args.bytes.now c.read.result c.read.ensures.ok

pub returns-clause-every : goal.returns-clause-every
returns-clause-every c = only_script (λ (x : Counted). x.script) (λ x. x.lines ≡ length (lines_of c.args.bytes.now)) c.args.bytes.now c.read.result c.read.ensures.ok c.read.ensures.bad

pub returns-clause-refused : goal.returns-clause-refused
returns-clause-refused c = only_refusal (λ (x : Counted). x.script) (λ x. x.lines ≡ length (lines_of c.args.bytes.now)) c.args.bytes.now c.read.result c.read.ensures.ok c.read.ensures.bad
