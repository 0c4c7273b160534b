use Rattle.std.proofs.Common.{rules}
use Rattle.std.{specs.Prelude.{◌≡◌, List, ◌∷◌, [], ◌++◌}, proofs.Common.{ap, subst, sym, ◌∙◌}}
use Rattle.perf_base.specs.declared.{acts.Act.{Act}, reply.Answer.{Answer}}
use Rattle.report_spec.specs.Answers.{lost_in}
use Rattle.stage_spec.specs.Replies.{AnswerOrder}
use Rattle.machine.specs.Leading.{act_of, done_by}
use Rattle.perf_book.proofs.Answering.{answered-line, same-loads}
use Rattle.perf_book.proofs.doing.do_line.Goals as goal

pub returns-clause-answered : goal.returns-clause-answered
returns-clause-answered g c =
    let acts : List Act = c.args.order.now.items in
    let answers : List Answer = c.args.answers.now.items in
    let act : c.push_reserved.new.self.items ≡ acts ++ act_of c.args.actor ∷ [] = c.push_reserved.ensures.items ∙ ap (λ a. acts ++ a ∷ []) c.act_of.ensures in
    let answer : c.push_reserved-2.new.self.items ≡ answers ++ record { actor = c.args.actor; number = done_by c.args.actor c.args.machine.now; reply = c.line-reply.result } ∷ [] =
    c.push_reserved-2.ensures.items ∙ ap (λ n. answers ++ record { actor = c.args.actor; number = n; reply = c.line-reply.result } ∷ []) c.done-number.ensures in
    subst (λ items. AnswerOrder c.args.script.now (lost_in c.args.script.now) items c.push_reserved-2.new.self.items) (sym act)
    (subst (λ items. AnswerOrder c.args.script.now (lost_in c.args.script.now) (acts ++ act_of c.args.actor ∷ []) items) (sym answer)
    (answered-line c.args.script.now acts c.args.machine.now c.args.actor c.line-reply.result answers c.requires.line c.requires.led (c.line-reply.ensures.reply acts c.requires.led) c.requires.answered))

pub returns-clause-loads : goal.returns-clause-loads
returns-clause-loads g c = same-loads c.args.machine.now.outs c.line-reply.new.self.outs c.line-reply.ensures.seen

pub returns-clause-counted : goal.returns-clause-counted
returns-clause-counted g c = search rules
