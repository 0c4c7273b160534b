use Rattle.std.{specs.Prelude.{◌≡◌, ℕ, ◌*◌, All}, proofs.Common.{sym, subst, ◌∙◌}}
use Rattle.perf_base.specs.{declared.numbers.RingNo.{RingNo}, Scripts.{Scripted}, Weight.{weight}}
use Rattle.machine.proofs.Behind.{following-readers}
use Rattle.perf_book.specs.{Book.{Booked}, Running.{IsRead}}
use Rattle.report_spec.specs.Answers.{IsRunShaped}
use Rattle.ring_laws.proofs.{Lines.{complete-looks}, Shapes.{shaped-looks}}
use Rattle.stage_spec.specs.Order.{IsComplete}
use Rattle.perf_top.proofs.Parts.{readers-parts}
use Rattle.perf_top.proofs.running.run_book.Goals as goal

pub run_with-book-requires-clause-readers : goal.run_with-book-requires-clause-readers
run_with-book-requires-clause-readers g c = λ κs lives. following-readers (9 * weight c.args.book.script) c.args.book.machine.outs c.args.ins c.requires.following

pub returns-clause-run : goal.returns-clause-run
returns-clause-run g c =
    let b : Booked = c.run_with-book.result.0 in
    let looks = c.finish.ensures.order in
    let run_shaped : IsRunShaped c.finish.result.order =
    subst IsRunShaped (sym looks.2) (shaped-looks b.order looks.0 c.run_with-book.ensures.shaped.0 c.run_with-book.ensures.shaped.1 looks.1) in
    let same : c.args.book.script ≡ c.finish.result.script = sym (c.finish.ensures.script ∙ c.run_with-book.ensures.script) in
    record {
      complete = subst (λ (s : Scripted). IsComplete s c.finish.result.order) (sym c.finish.ensures.script)
          (subst (IsComplete b.script) (sym looks.2) (complete-looks b.script 0 b.order looks.0 c.run_with-book.ensures.complete looks.1));
      shaped = run_shaped;
      parts = readers-parts c.finish.result.script c.finish.result.order c.args.ins c.run_with-book.result.1 run_shaped c.requires.unread
          (subst (λ (s : Scripted). All (λ (r : RingNo × ℕ). IsRead s c.args.ins c.run_with-book.result.1 r.0) s.rings) same c.run_with-book.ensures.read.1) c.finish.ensures.parts;
    }
