use Rattle.std.{specs.Prelude.{◌≡◌, Err, length, take}, proofs.Common.{arith, ap, sym, subst, ◌∙◌}}
use Rattle.perf_base.specs.Scripts.{Scripted}
use Rattle.machine.specs.{Leading.{LeadTo}, Stepping.{IsUnlawful}}
use Rattle.stage_spec.specs.Order.{IsComplete}
use Rattle.perf_top.{specs.{declared.ready.BadLook.{BadLook}, Outcome.{HasBadLook}}, proofs.Lines.{bad-look-at, has-line-at}}
use Rattle.perf_top.proofs.ready.fill.Goals as goal

pub bad_look-requires-clause-line : goal.bad_look-requires-clause-line
bad_look-requires-clause-line c = λ is.
    let s : Scripted = c.loop-index.book.script in
    let h = c.loop-index.invariant in
    let order : c.order.result.now ≡ s.order = c.order.ensures.order ∙ ap (λ (t : Scripted). t.order) c.script-in-loop-index.ensures.script in
    let own : c.order.result.now ≡ c.args.book.now.script.order = order ∙ ap (λ (t : Scripted). t.order) h.script in
    let led : LeadTo s (take c.loop-index.index c.order.result.now) c.loop-index.book.machine =
    subst (λ acts. LeadTo s acts c.loop-index.book.machine) (h.order ∙ ap (take c.loop-index.index) (sym own)) c.script-in-loop-index.ensures.sound.led in
    has-line-at s c.order.result.now c.loop-index.book.machine c.loop-index.index _ order (omega (arith, c.loop-index-test.true, h.end, ap length own)) led
    (subst (λ (t : Scripted). IsComplete t t.order) (sym h.script) c.requires.complete) (c.in-Err.ensures.no_line.0 (ap Err is))

pub returns-in-Err-clause-bad : goal.returns-in-Err-clause-bad
returns-in-Err-clause-bad c = λ b is.
    let s : Scripted = c.loop-index.book.script in
    let h = c.loop-index.invariant in
    let r : BadLook = c.bad_look.result in
    let order : c.order.result.now ≡ s.order = c.order.ensures.order ∙ ap (λ (t : Scripted). t.order) c.script-in-loop-index.ensures.script in
    let own : c.order.result.now ≡ c.args.book.now.script.order = order ∙ ap (λ (t : Scripted). t.order) h.script in
    let acts : c.loop-index.book.order ≡ take c.loop-index.index c.order.result.now = h.order ∙ ap (take c.loop-index.index) (sym own) in
    let led : LeadTo s (take c.loop-index.index c.order.result.now) c.loop-index.book.machine =
    subst (λ o. LeadTo s o c.loop-index.book.machine) acts c.script-in-loop-index.ensures.sound.led in
    let u = c.in-Err.ensures.unlawful r.ring r.last r.head r.given (ap Err c.bad_look.ensures.fault) in
    let bad : HasBadLook s c.loop-index.index r.ring r.last r.head r.given =
    bad-look-at s c.order.result.now c.loop-index.book.machine c.loop-index.index _ r.ring r.last r.head r.given order (omega (arith, c.loop-index-test.true, h.end, ap length own)) led u.0
    (subst (λ o. IsUnlawful s o r.ring r.last r.head r.given) (acts ∙ ap (take c.loop-index.index) order) u.1) in
    let same : r ≡ b = cc in
    subst (λ (t : Scripted). HasBadLook t b.index b.ring b.last b.head b.given) h.script
    (subst (λ (x : BadLook). HasBadLook s x.index x.ring x.last x.head x.given) same
    (subst (λ n. HasBadLook s n r.ring r.last r.head r.given) (sym c.bad_look.ensures.index) bad))
