use Rattle.std.{specs.Prelude.{◌≡◌, List}, proofs.Common.{arith, sym, ap, ◌∙◌, inr}}
use Rattle.perf_base.specs.declared.acts.Act.{Act}
use Rattle.ring_laws.proofs.Tails.{seen_tail}
use Rattle.ring_spec.specs.Rings.{bytes_of}
use Rattle.stage_spec.specs.Order.{last_seen}
use Rattle.machine.specs.Readers.{released_in, released_of_slot}
use Rattle.perf_book.proofs.ending.meet_at.Goals as goal

pub returns-then-place-last-clause-looked : goal.returns-then-place-last-clause-looked
returns-then-place-last-clause-looked c = λ s led.
    let acts : List Act = c.args.order.now.items in
    let last : c.ring_end-last.result.numbers.tail ≡ last_seen c.args.ring acts = (c.ring_end-last.ensures.shown s acts led).tail ∙ seen_tail s acts c.args.ring (bytes_of s c.args.ring) in
    inr (c.place-place.result, omega (arith, last, c.if-place-last.true), c.push_reserved.ensures.items)

pub returns-else-place-last-clause-seen : goal.returns-else-place-last-clause-seen
returns-else-place-last-clause-seen c = λ s led.
    let acts : List Act = c.args.order.now.items in
    let last : c.ring_end-last.result.numbers.tail ≡ last_seen c.args.ring acts = (c.ring_end-last.ensures.shown s acts led).tail ∙ seen_tail s acts c.args.ring (bytes_of s c.args.ring) in
    let released : released_in c.args.ins.now c.args.ring ≡ c.place-place.result = ap released_of_slot c.lent.ensures ∙ sym c.place-place.ensures.place in
    omega (arith, last, released, c.if-place-last.false, (c.meet_ring.ensures.lawful s acts led).above)

pub returns-else-place-last-clause-led : goal.returns-else-place-last-clause-led
returns-else-place-last-clause-led c = λ s led. c.meet_ring.ensures.same s c.args.order.now.items led (sym (returns-else-place-last-clause-seen c s led))
