use Rattle.std.proofs.Common.{refl, subst}
use Rattle.line_input.specs.{Ahead.{ahead}, LineEnds.{HasLine}}
use Rattle.line_forms.specs.Forms.{version_of}
use Rattle.live_session.specs.Turns.{IsAnswered}
use Rattle.live_session.proofs.Hearing.{cut-line, long-line, whole-line}
use Rattle.live_session.proofs.session.Session.hear.Goals as goal

pub returns-in-Ok-Cut-clause-ok : goal.returns-in-Ok-Cut-clause-ok
returns-in-Ok-Cut-clause-ok g c = λ made h.
    cut-line {shows = g.S.Source.shows} c.args.self.now (record { machine = c.args.self.now.machine; input = c.next_line.new.self; line = c.next_line.new.line }) c.args.source.now c.next_line.new.source made c.next_line.new.line
    (subst (HasLine (ahead g.S.Source.shows c.args.self.now.input c.args.source.now) (ahead g.S.Source.shows c.next_line.new.self c.next_line.new.source) c.next_line.new.line) c.in-Ok-Cut.field-0-is c.in-Ok-Cut.ensures.ok) h refl

pub returns-in-Ok-Long-clause-ok : goal.returns-in-Ok-Long-clause-ok
returns-in-Ok-Long-clause-ok g c = λ made h.
    long-line {shows = g.S.Source.shows} c.args.self.now (record { machine = c.args.self.now.machine; input = c.next_line.new.self; line = c.next_line.new.line }) c.args.source.now c.next_line.new.source made c.next_line.new.line
    (subst (HasLine (ahead g.S.Source.shows c.args.self.now.input c.args.source.now) (ahead g.S.Source.shows c.next_line.new.self c.next_line.new.source) c.next_line.new.line) c.in-Ok-Long.field-0-is c.in-Ok-Long.ensures.ok) h refl

pub returns-in-Ok-Ended-clause-ok : goal.returns-in-Ok-Ended-clause-ok
returns-in-Ok-Ended-clause-ok g c = λ made h.
    let a = c.answer.ensures.answered made h in
    whole-line {shows = g.S.Source.shows} c.args.self.now (record { machine = c.answer.new.self; input = c.next_line.new.self; line = c.next_line.new.line }) c.args.source.now c.next_line.new.source made a.0 c.next_line.new.line
    c.answer.result
    (subst (HasLine (ahead g.S.Source.shows c.args.self.now.input c.args.source.now) (ahead g.S.Source.shows c.next_line.new.self c.next_line.new.source) c.next_line.new.line) c.in-Ok-Ended.field-0-is c.in-Ok-Ended.ensures.ok)
    (subst (λ line. IsAnswered c.args.self.now.machine.script (version_of c.args.self.now.machine.version) made line c.answer.result a.0) c.as_bytes.ensures a.1) a.2 c.answer.ensures.same
