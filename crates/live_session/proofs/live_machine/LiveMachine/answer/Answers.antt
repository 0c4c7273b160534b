use Rattle.line_forms.specs.Forms.{version_of}
use Rattle.live_session.proofs.Making.{answered, bad-line}
use Rattle.live_session.proofs.live_machine.LiveMachine.answer.Goals as goal

pub returns-in-Err-clause-answered : goal.returns-in-Err-clause-answered
returns-in-Err-clause-answered c = λ made h. (
  made,
  bad-line c.args.self.now.script (version_of c.args.self.now.version) made c.args.line.now c.in-Err.reason c.in-Err.ensures.bad,
  h,
)

pub returns-in-Ok-clause-answered : goal.returns-in-Ok-clause-answered
returns-in-Ok-clause-answered c = λ made h.
    let m = c.make.ensures.made made h in
    (m.0, answered c.args.self.now.script (version_of c.args.self.now.version) made m.0 c.args.line.now c.in-Ok.given c.make.result c.in-Ok.ensures.ok m.1, m.2)
