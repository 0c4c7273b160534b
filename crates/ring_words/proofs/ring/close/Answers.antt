use Rattle.std.{proofs.Common.{rules, ap, ◌∙◌}, specs.Slots.{slots_items}}
use Rattle.ring_words.{specs.{declared.view.View.{View}, Views.{Holder, rejoined}, Rule.{Tied}}, proofs.Parting.{may_rejoin, closes, at_word}}
use Rattle.ring_words.proofs.ring.close.Goals as goal

pub join_seat-requires : goal.join_seat-requires
join_seat-requires c = (search rules, search rules, search rules, search rules, may_rejoin _ _ _ _ _ c.producer.invariant.role c.consumer.invariant.role)

-- the last words are tied to the two ends
tied : (c : goal.After-free)
    → let both : View = rejoined c.producer.inside.seat.me.0 c.consumer.inside.seat.me.0 in
    Tied c.table.inside.table.shared.key (slots_items c.close_with-closed.result.words) both both
tied c =
    closes _ _ c.producer.inside.seat.me.0 c.consumer.inside.seat.me.0 _ _ _ c.producer.invariant.role c.consumer.invariant.role
    (ap (λ (m : Holder). m.0) c.join_seat.ensures.2) c.close_with-closed.ensures.values.2

pub returns-clause-head : goal.returns-clause-head
returns-clause-head c = rw (← c.producer.view_is) (at_word (slots_items c.close_with-closed.result.words) 1 _ c.word-head.ensures ∙ (tied c).head)

pub returns-clause-tail : goal.returns-clause-tail
returns-clause-tail c = rw (← c.consumer.view_is) (at_word (slots_items c.close_with-closed.result.words) 0 _ c.word-tail.ensures ∙ (tied c).tail)

pub returns-clause-prefix : goal.returns-clause-prefix
returns-clause-prefix c = rw (← c.producer.view_is, ← c.consumer.view_is) (tied c).taken
