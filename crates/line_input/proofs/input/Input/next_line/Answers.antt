use Rattle.std.proofs.{Common.{[], ◌∷◌, ◌++◌, arith}, lemmas.Grind.{common_steps}}
use Rattle.line_input.specs.Ahead.{ahead}
use Rattle.line_input.proofs.LineParts.{taken_more, taken_ended, taken_long}
use Rattle.line_input.proofs.input.Input.next_line.Goals as goal

pub returns-in-Some-eq10-clause-ok : goal.returns-in-Some-eq10-clause-ok
returns-in-Some-eq10-clause-ok g c =
    let byte = rw c.in-Some-eq10.is at c.in_ok-next_byte.ensures.ok in
    taken_ended c.loop-count.invariant.part.1 (ahead g.S.Source.shows c.next_byte.new.self c.next_byte.new.source) (rw c.in-Some-eq10.field-0-test at byte) (omega (arith, c.if-count.true))

pub returns-in-Some-eq10-2-clause-ok : goal.returns-in-Some-eq10-2-clause-ok
returns-in-Some-eq10-2-clause-ok g c =
    let byte = rw c.in-Some-eq10.is at c.in_ok-next_byte.ensures.ok in
    let long = taken_long c.loop-count.invariant.part.1 (ahead g.S.Source.shows c.next_byte.new.self c.next_byte.new.source) in
    long (rw c.in-Some-eq10.field-0-test at byte) (omega (arith, c.if-count.false))

pub loop-count-preserved : goal.loop-count-preserved
loop-count-preserved g c =
    let more = taken_more c.loop-count.invariant.part.1 (ahead g.S.Source.shows c.next_byte.new.self c.next_byte.new.source) c.in-Some.byte c.push.new.self in
    record {
      faults = omega (arith, c.loop-count.invariant.faults, c.next_byte.ensures.count);
      part = (c.loop-count.invariant.part.0 ++ c.in-Some.byte ∷ [], more (rw c.in-Some.is at c.in_ok-next_byte.ensures.ok) c.in-Some.byte-test.1 c.push.ensures);
    }

pub returns-in-None-clause-ok : goal.returns-in-None-clause-ok
returns-in-None-clause-ok g c = grind (arith, common_steps)

pub returns-in-None-2-clause-ok : goal.returns-in-None-2-clause-ok
returns-in-None-2-clause-ok g c = grind (arith, common_steps)
