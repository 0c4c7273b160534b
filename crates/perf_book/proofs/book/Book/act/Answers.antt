use Rattle.std.{specs.Prelude.{◌≡◌, ◌*◌, List, ◌∷◌, [], ◌++◌, Err}, proofs.Common.{arith, sym, ap, subst, ◌∙◌}}
use Rattle.perf_base.specs.{declared.acts.Act.{Act}, Weight.{weight}}
use Rattle.stage_spec.specs.Replies.{AnswerOrder}
use Rattle.machine.specs.{Leading.{Kept, LeadTo}, Readers.{AreFollowing}, Stepping.{IsUnlawful}}
use Rattle.machine.specs.declared.stepping.OrderFault.TheVariants as order_fault
use Rattle.report_spec.specs.Answers.{lost_in}
use Rattle.perf_book.{specs.{Book.{Booked, IsBooked, MayAct}, Keeping.{KeepsAnswer, kept, next_line}}, proofs.Answering.{answered-then}}
use Rattle.perf_book.proofs.Rooms.{booked-act, room-for-act}
use Rattle.perf_book.proofs.book.Book.act.Goals as goal

pub step-requires-clause-script : goal.step-requires-clause-script
step-requires-clause-script c = (c.self.inside.order.items, c.self.invariant.0.led)

pub step-requires-clause-following : goal.step-requires-clause-following
step-requires-clause-following c = subst (λ (k : Booked). AreFollowing (9 * weight k.script) k.machine.outs c.args.ins.now) (sym c.self.view_is) c.requires.following

pub keep-requires : goal.keep-requires
keep-requires c =
    let b : Booked = record { script = c.self.inside.script; machine = c.self.inside.machine; order = c.self.inside.order.items; answers = c.self.inside.answers.items } in
    omega (arith, (room-for-act b _ _ _ c.self.invariant.0 c.self.invariant.1).1)

pub push_reserved-requires : goal.push_reserved-requires
push_reserved-requires c =
    let b : Booked = record { script = c.self.inside.script; machine = c.self.inside.machine; order = c.self.inside.order.items; answers = c.self.inside.answers.items } in
    omega (arith, (room-for-act b _ _ _ c.self.invariant.0 c.self.invariant.1).0, c.self.inside.order.ok.0)

-- a line that is refused leaves the book
pub invariant_of-self : goal.invariant_of-self
invariant_of-self c = (
  subst (λ (m : Kept). IsBooked (record { script = c.self.inside.script; machine = m; order = c.self.inside.order.items; answers = c.self.inside.answers.items })) (sym c.in-Err.ensures.same.0)
      c.self.invariant.0,
  c.self.invariant.1,
  c.self.invariant.2,
)

pub invariant_of-self-in-Ok : goal.invariant_of-self-in-Ok
invariant_of-self-in-Ok c =
    let b : Booked = record { script = c.self.inside.script; machine = c.self.inside.machine; order = c.self.inside.order.items; answers = c.self.inside.answers.items } in
    let acts : List Act = c.self.inside.order.items in
    let led : LeadTo b.script acts b.machine = c.self.invariant.0.led in
    let then : LeadTo b.script c.push_reserved.new.self.items c.step.new.self =
    subst (λ (order : List Act). LeadTo b.script order c.step.new.self) (sym c.push_reserved.ensures.items) (c.in-Ok.ensures.done acts led) in
    let answered : AnswerOrder b.script (lost_in b.script) c.push_reserved.new.self.items c.keep.new.answers.items =
    subst (λ (order : List Act). AnswerOrder b.script (lost_in b.script) order c.keep.new.answers.items) (sym c.push_reserved.ensures.items)
    (subst (λ items. AnswerOrder b.script (lost_in b.script) (acts ++ c.args.act ∷ []) items) (sym c.keep.ensures.items)
    (answered-then b.script acts c.args.act c.line_of-line.result c.in-Ok.reply c.self.inside.answers.items (c.line_of-line.ensures.led b.script acts led)
    (c.in-Ok.ensures.reply acts led) c.self.invariant.0.answered.answered)) in
    let room = c.self.invariant.1 in (
      booked-act b c.args.act c.push_reserved.new.self.items c.step.new.self c.keep.new.answers.items c.self.invariant.0
          (subst (MayAct c.args.act) (sym c.self.view_is) c.requires.looks) c.push_reserved.ensures.items then answered,
      record {
        order = omega (arith, room.order, c.push_reserved.ensures.capacity);
        answers = omega (arith, room.answers, c.keep.ensures.room);
        ends = room.ends;
      },
      c.self.invariant.2,
    )

pub returns-in-Err-clause-unlawful : goal.returns-in-Err-clause-unlawful
returns-in-Err-clause-unlawful c = λ ring last head given is.
    let same : c.in-Err.fault ≡ order_fault.BadSeen ring last head given = cc in
    let u = c.in-Err.ensures.unlawful ring last head given (ap Err same) in
    (u.0, subst (λ (k : Booked). IsUnlawful k.script k.order ring last head given) c.self.view_is (u.1 c.self.inside.order.items c.self.invariant.0.led))

pub returns-in-Ok-clause-answer : goal.returns-in-Ok-clause-answer
returns-in-Ok-clause-answer c =
    subst (λ (k : Booked). KeepsAnswer (next_line k.machine c.args.act) k.machine c.step.new.self k.answers c.keep.new.answers.items) c.self.view_is (
      c.in-Ok.reply,
      c.keep.ensures.items ∙ ap (λ line. c.self.inside.answers.items ++ kept line c.in-Ok.reply) c.line_of-line.ensures.line,
      c.in-Ok.ensures.world,
    )

pub returns-in-Ok-clause-sound : goal.returns-in-Ok-clause-sound
returns-in-Ok-clause-sound c = (invariant_of-self-in-Ok c).0
