use Rattle.std.proofs.{Common.{ℕ, List, length, arith, sym, ap, subst, ◌∙◌}, lemmas.{Bool.{false≢true}, List.{length_push}}}
use Rattle.perf_io.specs.Outside.{Takes}
use Rattle.line_input.specs.{Ahead.{ahead}, Heads.{HasEndLine}}
use Rattle.line_input.proofs.{Heads.{end_line-lf, no_end_line-longer, head-here, head-long}, Taking.{Takes-then}}
use Rattle.line_input.proofs.input.Input.fill_head.Goals.{else-byte-eq10-via-then-byte-eq10+else-has_end_line, else-byte-eq10-via-else-byte-eq10}
use Rattle.line_input.proofs.input.Input.fill_head.Goals as goal

pub returns-then-has_end_line-clause-ok : goal.returns-then-has_end_line-clause-ok
returns-then-has_end_line-clause-ok g c =
    let shows = g.S.Source.shows in
    let ends : HasEndLine c.push_reserved.new.self.items = subst HasEndLine c.deref.ensures.value (c.has_end_line.ensures.0 c.if-has_end_line.true) in
    head-here _ (ahead shows c.loop.self c.loop.source) _ c.loop.text.items _ c.in-Ok-Some.byte c.push_reserved.ensures.items c.loop.invariant.taken
    (rw c.in-Ok-Some.field-0-is at c.in-Ok-Some.ensures.ok) c.loop.invariant.none ends
    (omega (arith, c.loop.invariant.counted, ap length c.push_reserved.ensures.items, length_push c.loop.text.items c.in-Ok-Some.byte))

pub loop-preserved : goal.loop-preserved
loop-preserved g c =
    let shows = g.S.Source.shows in
    let longer = c.push_reserved.ensures.items in
    record {
      room = omega (arith, c.loop.invariant.room, c.push_reserved.ensures.capacity);
      counted = omega (arith, c.loop.invariant.counted, ap length longer, length_push c.loop.text.items c.in-Ok-Some.byte);
      taken = subst (Takes _ _) (sym {A = List ℕ} longer) (Takes-then _ (ahead shows c.loop.self c.loop.source) _ c.loop.text.items _ c.loop.invariant.taken (rw c.in-Ok-Some.field-0-is at c.in-Ok-Some.ensures.ok));
      none = no_end_line-longer c.loop.text.items _ c.in-Ok-Some.byte longer c.loop.invariant.none
          (elim c.else-byte-eq10.branch [
            | else-byte-eq10-via-then-byte-eq10+else-has_end_line w ↦ λ ends. false≢true (sym w.if-has_end_line.false ∙ w.has_end_line.ensures.1 (subst HasEndLine (sym w.deref.ensures.value) ends))
            | else-byte-eq10-via-else-byte-eq10 w ↦ λ ends. w.if-byte-eq10.false (end_line-lf c.loop.text.items c.in-Ok-Some.byte (subst HasEndLine longer ends))
          ]);
      count = omega (arith, c.loop.invariant.count, c.next_byte.ensures.count);
    }

pub returns-in-Ok-Some-next_byte-clause-long : goal.returns-in-Ok-Some-next_byte-clause-long
returns-in-Ok-Some-next_byte-clause-long g c =
    let shows = g.S.Source.shows in
    λ _. head-long _ (ahead shows c.next_byte-2.new.self c.next_byte-2.new.source) c.loop.text.items c.in-Ok-Some-next_byte.field-0-0 4194304
    (Takes-then _ (ahead shows c.loop.self c.loop.source) _ c.loop.text.items _ c.loop.invariant.taken (rw c.in-Ok-Some-next_byte.field-0-is at c.in-Ok-Some-next_byte.ensures.ok))
    c.loop.invariant.none (omega (arith, c.loop.invariant.counted, c.loop-test.false, c.loop.auto.counter-end))
