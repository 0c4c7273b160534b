use Rattle.std.{specs.Prelude.{◌≡◌, ◌*◌, List, ◌++◌}, proofs.Common.{arith, sym, ap, subst, ◌∙◌}}
use Rattle.perf_base.specs.{declared.acts.Act.{Act}, Weight.{weight}}
use Rattle.stage_spec.specs.Replies.{AnswerOrder}
use Rattle.run_end.specs.Ended.{Ran}
use Rattle.machine.specs.Readers.{AreBehind, AreReaders}
use Rattle.report_spec.specs.Answers.{lost_in}
use Rattle.ring_laws.specs.Growing.{AreLooks}
use Rattle.perf_book.{specs.{Book.{Booked}, Ending.{IsEnd}}, proofs.{Rooms.{looks-answered, room-before}, Taken.{all-taken}}}
use Rattle.perf_book.proofs.book.Book.finish.Goals as goal

pub meet_all-requires-clause-readers : goal.meet_all-requires-clause-readers
meet_all-requires-clause-readers c = subst (λ (k : Booked). AreReaders (9 * weight k.script) k.machine.outs c.args.ins) (sym c.self.view_is) c.requires.readers

pub meet_all-requires-clause-room : goal.meet_all-requires-clause-room
meet_all-requires-clause-room c =
    let b : Booked = record { script = c.self.inside.script; machine = c.self.inside.machine; order = c.self.inside.order.items; answers = c.self.inside.answers.items } in
    omega (arith, room-before b _ _ _ c.self.invariant.0 c.self.invariant.1, c.self.inside.order.ok.0)

pub new-requires-clause-lines : goal.new-requires-clause-lines
new-requires-clause-lines c =
    let looks = c.meet_all.ensures.looks in
    let all : AnswerOrder c.self.inside.script (lost_in c.self.inside.script) c.meet_all.new.order.items c.self.inside.answers.items =
    subst (λ acts. AnswerOrder c.self.inside.script (lost_in c.self.inside.script) acts c.self.inside.answers.items) (sym looks.2)
    (looks-answered c.self.inside.script c.self.inside.order.items looks.0 c.self.inside.answers.items looks.1 c.self.invariant.0.answered.answered) in
    all.lines

pub new-requires-clause-taken : goal.new-requires-clause-taken
new-requires-clause-taken c =
    let led = c.take_rest.ensures.led c.meet_all.new.order.items c.meet_all.ensures.led in
    all-taken c.self.inside.script c.meet_all.new.order.items c.take_rest.new.ins c.push_ends.new.ends.items c.push_ends.ensures.rings (c.push_ends.ensures.shown c.meet_all.new.order.items led)
    (c.take_rest.ensures.taken c.meet_all.new.order.items c.meet_all.ensures.led)

pub returns-clause-order : goal.returns-clause-order
returns-clause-order c =
    let looks = c.meet_all.ensures.looks in
    let own : (ls : List Act) × AreLooks 0 c.self.inside.order.items ls × (c.meet_all.new.order.items ≡ c.self.inside.order.items ++ ls) = (looks.0, looks.1, looks.2) in
    subst (λ (e : Ran). (ls : List Act) × AreLooks 0 c.args.self.order ls × (e.order ≡ c.args.self.order ++ ls)) (sym c.new.ensures)
    (subst (λ (k : Booked). (ls : List Act) × AreLooks 0 k.order ls × (c.meet_all.new.order.items ≡ k.order ++ ls)) c.self.view_is own)

pub returns-clause-still : goal.returns-clause-still
returns-clause-still c = λ behind.
    ap (λ (e : Ran). e.order) c.new.ensures
    ∙ (c.meet_all.ensures.still (subst (λ (k : Booked). AreBehind (9 * weight k.script) k.machine.outs c.args.ins) (sym c.self.view_is) behind)
    ∙ ap (λ (k : Booked). k.order) c.self.view_is)

pub returns-clause-ended : goal.returns-clause-ended
returns-clause-ended c =
    let looks = c.meet_all.ensures.looks in
    let led = c.take_rest.ensures.led c.meet_all.new.order.items c.meet_all.ensures.led in
    subst IsEnd (sym c.new.ensures)
    (record {
      script = c.self.invariant.0.script;
      answered = record {
        counted = c.meet_all.ensures.led.counted;
        lawful = c.meet_all.ensures.led.lawful;
        answered = subst (λ acts. AnswerOrder c.self.inside.script (lost_in c.self.inside.script) acts c.self.inside.answers.items) (sym looks.2)
            (looks-answered c.self.inside.script c.self.inside.order.items looks.0 c.self.inside.answers.items looks.1 c.self.invariant.0.answered.answered);
      };
      rings = c.push_ends.ensures.rings;
      shown = c.push_ends.ensures.shown c.meet_all.new.order.items led;
      taken = c.take_rest.ensures.taken c.meet_all.new.order.items c.meet_all.ensures.led;
    })
