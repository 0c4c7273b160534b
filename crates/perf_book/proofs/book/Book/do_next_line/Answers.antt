use Rattle.std.{specs.Prelude.{◌≡◌, Some, List, ◌∷◌, [], ◌++◌, length}, proofs.Common.{arith, sym, ap, subst, ◌∙◌, append_assoc, length-append}}
use Rattle.perf_base.specs.declared.acts.Act.{Act}
use Rattle.perf_base.specs.declared.lines.CpuLine.TheVariants as cpu_line
use Rattle.stage_spec.specs.History.{CpuStep}
use Rattle.machine.specs.{Counted.{IsCountedBy}, Stepped.{StaysIfRefused}, Leading.{HasLine, act_of, done_by, next_step}}
use Rattle.machine.proofs.Counting.{work-free}
use Rattle.perf_book.specs.Book.{AreLooksOf, Booked}
use Rattle.perf_book.proofs.Rooms.{answered-looks, booked-then, done-after, line-after, looks-length, room-before, room-for-answer, room-for-line, step-after}
use Rattle.perf_book.proofs.book.Book.do_next_line.Goals as goal

pub look_before-requires-clause-room : goal.look_before-requires-clause-room
look_before-requires-clause-room g c =
    let b : Booked = record { script = c.self.inside.script; machine = c.self.inside.machine; order = c.self.inside.order.items; answers = c.self.inside.answers.items } in
    omega (arith, room-before b _ _ _ c.self.invariant.0 c.self.invariant.1, c.self.inside.order.ok.0)

pub do_line-requires-clause-answered : goal.do_line-requires-clause-answered
do_line-requires-clause-answered g c =
    let looks = c.look_before.ensures.looks in
    answered-looks c.self.inside.script c.self.inside.order.items looks.0 c.look_before.new.order.items c.args.actor c.self.inside.answers.items looks.1 looks.2
    c.self.invariant.0.answered.answered

pub do_line-requires-clause-line : goal.do_line-requires-clause-line
do_line-requires-clause-line g c =
    let looks = c.look_before.ensures.looks in
    line-after c.self.inside.script c.self.inside.order.items looks.0 c.look_before.new.order.items c.self.inside.machine c.look_before.new.machine c.args.actor c.self.invariant.0.led
    c.look_before.ensures.led looks.1 looks.2 (subst (λ (b : Booked). HasLine b.script b.machine c.args.actor) (sym c.self.view_is) c.requires.line)

pub do_line-requires-clause-order_room : goal.do_line-requires-clause-order_room
do_line-requires-clause-order_room g c =
    let b : Booked = record { script = c.self.inside.script; machine = c.self.inside.machine; order = c.self.inside.order.items; answers = c.self.inside.answers.items } in
    let looks = c.look_before.ensures.looks in
    omega (
      arith,
      room-for-line b c.args.actor (length looks.0) _ _ _ c.self.invariant.0 c.self.invariant.1
          (subst (λ (k : Booked). HasLine k.script k.machine c.args.actor) (sym c.self.view_is) c.requires.line) (looks-length c.self.inside.script c.args.actor looks.0 looks.3),
      ap length looks.2,
      length-append c.self.inside.order.items looks.0,
      c.look_before.new.order.ok.0,
      c.look_before.ensures.capacity,
    )

pub do_line-requires-clause-answer_room : goal.do_line-requires-clause-answer_room
do_line-requires-clause-answer_room g c =
    let b : Booked = record { script = c.self.inside.script; machine = c.self.inside.machine; order = c.self.inside.order.items; answers = c.self.inside.answers.items } in
    omega (
      arith,
      room-for-answer b c.args.actor _ _ _ c.self.invariant.0 c.self.invariant.1 (subst (λ (k : Booked). HasLine k.script k.machine c.args.actor) (sym c.self.view_is) c.requires.line),
    )

pub invariant_of-self : goal.invariant_of-self
invariant_of-self g c =
    let b : Booked = record { script = c.self.inside.script; machine = c.self.inside.machine; order = c.self.inside.order.items; answers = c.self.inside.answers.items } in
    let looks = c.look_before.ensures.looks in
    let room = c.self.invariant.1 in (
      booked-then b c.args.actor looks.0 c.do_line.new.order.items c.do_line.new.machine c.do_line.new.answers.items c.self.invariant.0
          (subst (λ (k : Booked). HasLine k.script k.machine c.args.actor) (sym c.self.view_is) c.requires.line) looks.1 looks.3
          (c.do_line.ensures.order ∙ ap (λ acts. acts ++ act_of c.args.actor ∷ []) looks.2) c.do_line.ensures.led c.do_line.ensures.answered,
      record {
        order = omega (arith, room.order, c.do_line.ensures.order_capacity, c.look_before.ensures.capacity);
        answers = omega (arith, room.answers, c.do_line.ensures.answer_capacity);
        ends = room.ends;
      },
      c.self.invariant.2,
    )

pub returns-clause-sound : goal.returns-clause-sound
returns-clause-sound g c = (invariant_of-self g c).0

pub returns-clause-order : goal.returns-clause-order
returns-clause-order g c =
    let looks = c.look_before.ensures.looks in
    let act : List Act = act_of c.args.actor ∷ [] in
    subst (λ (k : Booked). (ls : List Act) × AreLooksOf c.args.actor k.order ls × (c.do_line.new.order.items ≡ k.order ++ (ls ++ act))) c.self.view_is
    (looks.0, looks.1, c.do_line.ensures.order ∙ (ap (λ acts. acts ++ act) looks.2 ∙ append_assoc c.self.inside.order.items looks.0 act))

pub returns-clause-answer : goal.returns-clause-answer
returns-clause-answer g c =
    let answer = c.do_line.ensures.answer in
    let looks = c.look_before.ensures.looks in
    let world : c.look_before.new.machine.world ≡ c.args.self.now.machine.world = c.look_before.ensures.world ∙ ap (λ (k : Booked). k.machine.world) c.self.view_is in
    let same : done_by c.args.actor c.look_before.new.machine ≡ done_by c.args.actor c.self.inside.machine =
    done-after c.self.inside.script c.self.inside.order.items looks.0 c.look_before.new.order.items c.self.inside.machine c.look_before.new.machine c.args.actor c.self.invariant.0.led
    c.look_before.ensures.led looks.1 looks.2 in (
      answer.0,
      answer.1
          ∙ (ap (λ n. c.self.inside.answers.items ++ record { actor = c.args.actor; number = n; reply = answer.0 } ∷ []) same
          ∙ ap (λ (k : Booked). k.answers ++ record { actor = c.args.actor; number = done_by c.args.actor k.machine; reply = answer.0 } ∷ []) c.self.view_is),
      subst (λ w. StaysIfRefused w c.do_line.new.machine.world answer.0) world answer.2,
    )

pub returns-clause-counted : goal.returns-clause-counted
returns-clause-counted g c = λ x is.
    let looks = c.look_before.ensures.looks in
    let world : c.look_before.new.machine.world ≡ c.args.self.now.machine.world = c.look_before.ensures.world ∙ ap (λ (k : Booked). k.machine.world) c.self.view_is in
    let same : done_by c.args.actor c.look_before.new.machine ≡ done_by c.args.actor c.self.inside.machine =
    done-after c.self.inside.script c.self.inside.order.items looks.0 c.look_before.new.order.items c.self.inside.machine c.look_before.new.machine c.args.actor c.self.invariant.0.led
    c.look_before.ensures.led looks.1 looks.2 in
    let step : next_step c.self.inside.script c.look_before.new.machine c.args.actor ≡ Some x =
    step-after c.self.inside.script c.self.inside.machine c.look_before.new.machine c.args.actor same ∙ (ap (λ (k : Booked). next_step k.script k.machine c.args.actor) c.self.view_is ∙ is) in
    subst (λ w. IsCountedBy (Some c.args.sheet.now) x w c.do_line.new.machine.world c.args.tests.now c.do_line.new.tests) world (c.do_line.ensures.counted x step)

pub returns-clause-work : goal.returns-clause-work
returns-clause-work g c = λ cpu work is.
    work-free (Some c.args.sheet.now) c.args.self.now.machine.world c.do_line.new.machine.world cpu work c.args.tests.now c.do_line.new.tests
    (returns-clause-counted g c (CpuStep cpu (cpu_line.Work work)) is)
