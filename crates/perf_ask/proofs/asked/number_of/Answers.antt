use Rattle.std.{proofs.Common.{◌≡◌, Ok, true, ap, arith, ◌∙◌}, specs.Prelude.{decimal}}
use Rattle.perf_ask.proofs.Asking.{read-number, same-number}
use Rattle.perf_ask.proofs.asked.number_of.Goals.{else-least-number-via-then-least-number+then-number-most+else-says, else-least-number-via-then-least-number+else-number-most, else-least-number-via-else-least-number}
use Rattle.perf_ask.proofs.asked.number_of.Goals as goal

pub returns-in-Err : goal.returns-in-Err
returns-in-Err c n some few is =
    let r : c.parse.result ≡ Ok n = read-number n c.args.word.now c.parse.result (omega (arith, few)) is c.parse.ensures.value.0 in
    absurd cc

pub returns-else-least-number : goal.returns-else-least-number
returns-else-least-number c n some few is =
    let same : n ≡ c.in-Ok.number = same-number c.in-Ok.number n c.args.word.now c.parse.result (omega (arith, few)) is c.parse.ensures.value.0 c.in-Ok.is in
    elim c.else-least-number.branch [
      | else-least-number-via-then-least-number+then-number-most+else-says w ↦
          let said : w.says.result ≡ true = w.says.ensures.1 (is ∙ ap decimal same) in
          absurd cc
      | else-least-number-via-then-least-number+else-number-most w ↦ absurd (omega (arith, same, few, w.if-number-most.false))
      | else-least-number-via-else-least-number w ↦ absurd (omega (arith, same, some, w.if-least-number.false))
    ]
