use Rattle.std.{specs.Prelude.{◌≡◌, ℕ, ◌*◌, All, List, Contains, Some}, proofs.Common.{sym, subst, ◌∙◌}}
use Rattle.perf_base.specs.{declared.numbers.RingNo.{RingNo}, Scripts.{Scripted}, Weight.{weight}}
use Rattle.user_page.specs.{declared.look.Look.{Look}, Looks.{last_look}}
use Rattle.machine.proofs.Behind.{following-readers}
use Rattle.perf_book.specs.{Book.{Booked}, Running.{IsRead}}
use Rattle.report_spec.specs.Answers.{IsRunShaped}
use Rattle.ring_laws.proofs.{Lines.{complete-looks}, Shapes.{shaped-looks}}
use Rattle.stage_spec.specs.Order.{IsComplete}
use Rattle.perf_top.proofs.{Parts.{readers-parts}, Seeing.{published-after, seen-in}}
use Rattle.perf_top.proofs.watching.watch_book.Goals as goal

pub run_watched_with-watched-requires-clause-readers : goal.run_watched_with-watched-requires-clause-readers
run_watched_with-watched-requires-clause-readers g c = λ κs lives. following-readers (9 * weight c.args.book.script) c.args.book.machine.outs c.args.ins c.requires.following

pub returns-clause-run : goal.returns-clause-run
returns-clause-run g c =
    let w = c.run_watched_with-watched in
    let b : Booked = w.result.book in
    let looks = c.finish.ensures.order in
    let run_shaped : IsRunShaped c.finish.result.order =
    subst IsRunShaped (sym looks.2) (shaped-looks b.order looks.0 w.ensures.shaped.0 w.ensures.shaped.1 looks.1) in
    let same : c.args.book.script ≡ c.finish.result.script = sym (c.finish.ensures.script ∙ w.ensures.script) in
    record {
      complete = subst (λ (s : Scripted). IsComplete s c.finish.result.order) (sym c.finish.ensures.script)
          (subst (IsComplete b.script) (sym looks.2) (complete-looks b.script 0 b.order looks.0 w.ensures.complete looks.1));
      shaped = run_shaped;
      parts = readers-parts c.finish.result.script c.finish.result.order c.args.ins w.result.ins run_shaped c.requires.unread
          (subst (λ (s : Scripted). All (λ (r : RingNo × ℕ). IsRead s c.args.ins w.result.ins r.0) s.rings) same w.ensures.read.1) c.finish.ensures.parts;
    }

pub returns-clause-seen : goal.returns-clause-seen
returns-clause-seen g c =
    let w = c.run_watched_with-watched in
    let b : Booked = w.result.book in
    let looks = c.finish.ensures.order in
    subst (λ (l : List Look). Contains l w.result.look)
    (published-after c.looks_at_rings_publish_none.ensures b.script c.finish.result.script b.order looks.0 c.finish.result.order _ _ _ w.ensures.published c.event.ensures looks.1 c.finish.ensures.script looks.2)
    (seen-in _ w.result.writer.published w.result.look w.ensures.look)

pub returns-clause-last : goal.returns-clause-last
returns-clause-last g c =
    let w = c.run_watched_with-watched in
    let b : Booked = w.result.book in
    let looks = c.finish.ensures.order in
    subst (λ (l : List Look). last_look l ≡ Some c.last_published-last.result)
    (published-after c.looks_at_rings_publish_none.ensures b.script c.finish.result.script b.order looks.0 c.finish.result.order _ _ _ w.ensures.published c.event.ensures looks.1 c.finish.ensures.script looks.2)
    c.last_published-last.ensures
