use Rattle.std.{specs.Prelude.{◌≡◌, List}, proofs.Common.{arith, inr, ◌∙◌}}
use Rattle.perf_base.specs.declared.acts.Act.{Act}
use Rattle.ring_laws.proofs.Tails.{seen_tail}
use Rattle.ring_spec.specs.Rings.{bytes_of}
use Rattle.stage_spec.specs.Order.{last_seen}
use Rattle.perf_book.proofs.looking.look_at.Goals as goal

pub returns-then-place-last-clause-looked : goal.returns-then-place-last-clause-looked
returns-then-place-last-clause-looked c = λ s led.
    let acts : List Act = c.args.order.now.items in
    let last : c.ring_end-last.result.numbers.tail ≡ last_seen c.args.ring acts = (c.ring_end-last.ensures.shown s acts led).tail ∙ seen_tail s acts c.args.ring (bytes_of s c.args.ring) in
    inr (c.look-place.result, omega (arith, last, c.if-place-last.true), c.push_reserved.ensures.items)

pub returns-else-place-last-clause-led : goal.returns-else-place-last-clause-led
returns-else-place-last-clause-led c = λ s led.
    let acts : List Act = c.args.order.now.items in
    let last : c.ring_end-last.result.numbers.tail ≡ last_seen c.args.ring acts = (c.ring_end-last.ensures.shown s acts led).tail ∙ seen_tail s acts c.args.ring (bytes_of s c.args.ring) in
    c.look-place.ensures.same s acts led (omega (arith, last, c.if-place-last.false, (c.look-place.ensures.lawful s acts led).above))
