use Rattle.std.proofs.Common.{◌≡◌, ◌<◌, length, get_or, refl, arith}
use Rattle.script_read.proofs.Cutting.{no_line, next_line_is, plain_line, other_line, behind_all}
use Rattle.script_read.proofs.reading.next_line.Goals as goal
use Rattle.script_read.proofs.reading.next_line.Goals.{else-length-text-via-then-length-text+else-text-length-eq10, else-length-text-via-else-length-text}

pub returns-then-text-length-eq10 : goal.returns-then-text-length-eq10
returns-then-text-length-eq10 c =
    let plain = plain_line c.args.text.now _ c.printable_length-length.ensures.count c.if-length-text.true c.if-text-length-eq10.true in
    (rw (behind_all _ c.args.text.now) plain.0, (λ _. plain.1, λ _. refl))

pub returns-in_err-back : goal.returns-in_err-back
returns-in_err-back c = rw c.from_residual.ensures (no_line c.args.text.now c.cut.result.0.now (rw c.in_err-back.was at c.cut.ensures))

pub returns : goal.returns
returns c =
    let n = c.printable_length-length.result in
    let cut = rw c.in_ok-back.was at c.cut.ensures in
    let other : n < length c.args.text.now → get_or c.args.text.now n 0 ≡ 10 → ⊥ = elim c.else-length-text.branch [
      | else-length-text-via-then-length-text+else-text-length-eq10 w ↦ λ _ e. w.if-text-length-eq10.false e
      | else-length-text-via-else-length-text w ↦ λ l _. absurd (omega (arith, l, w.if-length-text.false))
    ] in (
      next_line_is c.args.text.now c.cut.result.0.now c.in_ok-back.field-0.now cut,
      (λ t. absurd cc, λ all. absurd (other_line c.args.text.now c.cut.result.0.now c.in_ok-back.field-0.now n cut c.printable_length-length.ensures.count other all)),
    )
